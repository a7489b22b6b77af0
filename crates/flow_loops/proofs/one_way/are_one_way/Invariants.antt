use Rattle.std.proofs.Common.{map, take}
use Rattle.base_words.specs.declared.location.Location.{Location}
use Rattle.base_graphs.specs.Graph.{row, size}
use Rattle.flow_loops.specs.Closing.{places_in}
use Rattle.flow_loops.specs.Spared.{AreOneWay}
use Rattle.flow_loops.proofs.one_way.are_one_way.Given as goal

-- from none of the locations so far does an edge both go on and lead back
abbrev pub invariant-loop-from : goal.invariant-loop-from
invariant-loop-from l =
    AreOneWay (row l.graph) l.ranks (places_in l.flow) (size l.graph)
    (map (λ (location : Location). location.number) (take l.from-index l.from-items))
