use Rattle.print_graphs.proofs.Taken.{nexts_links}
use Rattle.proved_laws.proofs.graph.arrows_are_links.Goals as goal

pub returns : goal.returns
returns c loads notes start nodes place next are = nexts_links loads notes start nodes are place next
