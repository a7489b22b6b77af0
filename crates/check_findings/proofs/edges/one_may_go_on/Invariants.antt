use Rattle.std.proofs.Common.{◌≡◌, ℕ, ◌<◌, false, Some}
use Rattle.std.specs.Prelude.{slice_get}
use Rattle.flow_graph.specs.Flow.{nodes_of}
use Rattle.flow_graph.specs.Hops.{Node}
use Rattle.flow_graph.specs.Taken.{may_go_on}
use Rattle.check_findings.proofs.edges.one_may_go_on.Given as goal

-- from no node so far
abbrev pub invariant-loop-node : goal.invariant-loop-node
invariant-loop-node l = (k : ℕ) (one : Node) → k < l.node → slice_get (nodes_of l.flow) k ≡ Some one
    → may_go_on l.flow.notes.now l.from.number l.onto.number one ≡ false
