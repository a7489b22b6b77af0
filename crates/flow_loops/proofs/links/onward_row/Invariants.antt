use Rattle.std.proofs.Common.{◌≡◌, map, take, Some}
use Rattle.std.specs.Prelude.{slice_get}
use Rattle.base_words.specs.declared.location.Location.{Location}
use Rattle.flow_graph.specs.Flow.{nodes_of}
use Rattle.flow_graph.specs.Hops.{Node}
use Rattle.flow_loops.specs.Links.{IsOnwardRow}
use Rattle.flow_loops.proofs.links.onward_row.Given as goal

-- the indices by the targets so far
abbrev pub invariant-loop-onto : goal.invariant-loop-onto
invariant-loop-onto l = (from : Node) → slice_get (nodes_of l.flow) l.node ≡ Some from
    → IsOnwardRow l.flow.notes.now (nodes_of l.flow)
    (map (λ (location : Location). location.number) (take l.onto-index l.targets)) from l.row.items
