use Rattle.std.proofs.Common.{◌≡◌, map, take, Some}
use Rattle.std.specs.Prelude.{slice_get}
use Rattle.base_words.specs.declared.location.Location.{Location}
use Rattle.flow_graph.specs.Flow.{nodes_of, notes_of}
use Rattle.flow_graph.specs.Hops.{Node}
use Rattle.flow_acceptance.specs.Free.{IsUnmarkedRow}
use Rattle.flow_acceptance.proofs.free.unmarked_row.Given as goal

-- the indices of the targets so far
abbrev pub invariant-loop-onto : goal.invariant-loop-onto
invariant-loop-onto l = (from : Node) → slice_get (nodes_of l.flow) l.node ≡ Some from
    → IsUnmarkedRow (notes_of l.flow) (nodes_of l.flow)
    (map (λ (location : Location). location.number) (take l.onto-index l.targets)) from l.row.items
