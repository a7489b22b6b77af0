use Rattle.flow_graph.proofs.KeptWalk.{kept_walk}
use Rattle.proved_laws.proofs.flow.kept_run_is_a_walk.Goals as goal

pub returns : goal.returns
returns c = kept_walk
