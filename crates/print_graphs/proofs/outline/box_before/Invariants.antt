use Rattle.std.proofs.Common.{◌≡◌, ℕ, ◌<◌, false, Some}
use Rattle.std.specs.Prelude.{slice_get}
use Rattle.print_graphs.specs.declared.node.Node.{Node}
use Rattle.print_graphs.specs.GraphOf.{edges_in, node_of}
use Rattle.print_graphs.specs.Outline as said
use Rattle.print_graphs.proofs.outline.box_before.Given as goal

-- none of the boxes so far goes straight on to it
abbrev pub invariant-loop-index : goal.invariant-loop-index
invariant-loop-index l =
    (k : ℕ) (one : Node) → k < l.index → slice_get l.boxes k ≡ Some one
    → said.goes_straight l.marks (edges_in l.loops) l.fn.onto.number (node_of one) ≡ false
