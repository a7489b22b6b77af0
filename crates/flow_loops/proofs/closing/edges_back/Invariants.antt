use Rattle.std.proofs.Common.{map, take}
use Rattle.base_words.specs.declared.location.Location.{Location}
use Rattle.base_notes.specs.EdgeOf.{edge_of}
use Rattle.base_graphs.specs.Graph.{row, size}
use Rattle.flow_loops.specs.Closing.{places_in, AreBack}
use Rattle.flow_loops.proofs.closing.edges_back.Given as goal

-- the edges from the locations so far
abbrev pub invariant-loop-from : goal.invariant-loop-from
invariant-loop-from l =
    AreBack (row l.graph) l.ranks (places_in l.flow) (size l.graph)
    (map (λ (location : Location). location.number) (take l.from-index l.from-items)) (map edge_of l.edges.items)
