use Rattle.std.proofs.Common.{◌≡◌, map, take}
use Rattle.base_words.specs.declared.location.Location.{Location}
use Rattle.flow_graph.specs.Flow.{nodes_of}
use Rattle.flow_graph.specs.Hops.{Node}
use Rattle.flow_acceptance.specs.Free.{those_at}
use Rattle.flow_acceptance.proofs.free_order.locations_at.Given as goal

-- the locations of the nodes so far
abbrev pub invariant-loop-index : goal.invariant-loop-index
invariant-loop-index l =
    map (λ (location : Location). location.number) l.locations.items
    ≡ map (λ (node : Node). node.place) (those_at (nodes_of l.flow) (take l.index-index l.indices))
