use Rattle.flow_graph.specs.Passes.{pass_raises}
use Rattle.proved_laws.proofs.flow.passes_raise.Goals as goal

pub returns : goal.returns
returns c = pass_raises
