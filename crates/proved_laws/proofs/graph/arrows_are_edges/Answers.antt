use Rattle.print_graphs.proofs.Taken.{nexts_edges}
use Rattle.proved_laws.proofs.graph.arrows_are_edges.Goals as goal

pub returns : goal.returns
returns c loads notes start nodes place next are without there = nexts_edges loads notes start nodes are place next without there
