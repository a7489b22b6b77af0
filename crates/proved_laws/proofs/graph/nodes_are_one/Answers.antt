use Rattle.print_graphs.proofs.Nodes.{one_graph}
use Rattle.proved_laws.proofs.graph.nodes_are_one.Goals as goal

pub returns : goal.returns
returns c loads notes start nodes others a b = one_graph loads notes start nodes others a b
