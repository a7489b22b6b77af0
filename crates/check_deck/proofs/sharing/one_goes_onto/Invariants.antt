use Rattle.std.proofs.Common.{◌≡◌, map, drop}
use Rattle.std.specs.List.{list_any}
use Rattle.base_notes.specs.EdgeOf.{edge_of}
use Rattle.check_deck.specs.Insides.{goes_onto}
use Rattle.check_deck.proofs.sharing.one_goes_onto.Given as goal

-- none of the edges so far goes back there
abbrev pub invariant-loop-edge : goal.invariant-loop-edge
invariant-loop-edge l =
    list_any (goes_onto l.head.number) (map edge_of (drop l.edge-index l.edges))
    ≡ list_any (goes_onto l.head.number) (map edge_of l.edges)
