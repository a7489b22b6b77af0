use Rattle.flow_graph.proofs.InNodesLaws.{held_different}
use Rattle.flow_graph.proofs.nodes.Nodes.at.Goals as goal

pub returns-clause-different : goal.returns-clause-different
returns-clause-different c calls held =
    held_different calls c.args.self.now.openings.items held.different c.args.self.now.nodes.keys.items
    c.as_slice.ensures.apart held.within
