use Rattle.std.proofs.Common.{◌≡◌, map, drop}
use Rattle.std.specs.List.{list_any}
use Rattle.base_notes.specs.EdgeOf.{edge_of}
use Rattle.base_notes.specs.Edges.{leads}
use Rattle.base_notes.proofs.notes.edges.Edges.have.Given as goal

-- what is left has the edge where all have it
abbrev pub invariant-loop-edge : goal.invariant-loop-edge
invariant-loop-edge l =
    list_any (leads l.from.number l.onto.number) (map edge_of (drop l.edge-index l.edge-items))
    ≡ list_any (leads l.from.number l.onto.number) (map edge_of l.edge-items)
