use Rattle.std.proofs.Common.{◌≡◌, ℕ, Some, take, false}
use Rattle.std.specs.Prelude.{Contains, slice_get}
use Rattle.flow_graph.specs.Executed.{may_go}
use Rattle.flow_graph.specs.Flow.{nodes_of}
use Rattle.flow_graph.specs.Hops as flow
use Rattle.print_graphs.proofs.onward.is_taken.Given as goal

-- a step may go on from none of the nodes so far
abbrev pub invariant-loop-node : goal.invariant-loop-node
invariant-loop-node l =
    (index : ℕ) (one : flow.Node) → Contains (take l.node-index l.nodes) index
    → slice_get (nodes_of l.flow) index ≡ Some one
    → may_go l.flow.notes.now.calls one.ways (flow.edge_between one.place l.onto.number) ≡ false
