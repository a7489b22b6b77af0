use Rattle.flow_graph.proofs.Matched.{one_matches}
use Rattle.flow_graph.proofs.patterns.alone.Goals as goal

pub returns : goal.returns
returns c = one_matches c.args.instruction
