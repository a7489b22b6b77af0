use Rattle.flow_graph.specs.Flow.{nodes_of}
use Rattle.print_graphs.specs.GraphOf.{AreAt}
use Rattle.print_graphs.proofs.onward.nodes_at.Given as goal

-- those of the nodes so far
abbrev pub invariant-loop-node : goal.invariant-loop-node
invariant-loop-node l = AreAt (nodes_of l.flow) l.node l.location.number l.nodes.items
