use Rattle.std.proofs.Common.{◌≡◌, map, take}
use Rattle.std.specs.Prelude.{filter}
use Rattle.base_notes.specs.EdgeOf.{edge_of}
use Rattle.check_deck.specs.Insides.{goes_onto}
use Rattle.check_deck.proofs.sharing.those_onto.Given as goal

-- those of the edges so far
abbrev pub invariant-loop-edge : goal.invariant-loop-edge
invariant-loop-edge l =
    map edge_of l.those.items ≡ filter (goes_onto l.head.number) (map edge_of (take l.edge-index l.edges))
