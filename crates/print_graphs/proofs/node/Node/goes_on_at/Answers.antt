use Rattle.std.proofs.Common.{◌∙◌}
use Rattle.flow_graph.specs.Found.{places_of}
use Rattle.flow_graph.proofs.Among.{among_found}
use Rattle.print_graphs.proofs.node.Node.goes_on_at.Goals as goal

pub returns : goal.returns
returns c =
    c.is_some.ensures
    ∙ among_found (places_of c.args.self.now.nexts) c.args.location.number c.index_of.result c.index_of.ensures.found
    c.index_of.ensures.none
