use Rattle.std.proofs.Common.{length, map}
use Rattle.read_decks.specs.InDeck.{loads_in, start_in}
use Rattle.base_notes.specs.EdgeOf.{edge_of}
use Rattle.flow_loops.specs.Spared.{AreSpared}
use Rattle.flow_loops.proofs.sparing.only_needed.Given as goal

-- all are needed but those that are left to be tried
abbrev pub invariant-loop-edge : goal.invariant-loop-edge
invariant-loop-edge l =
    AreSpared (loads_in l.flow.deck.now) l.flow.notes.now (start_in l.flow.deck.now) (map edge_of l.left.items)
    (map edge_of l.kept.items)

abbrev pub decreases-loop-edge : goal.decreases-loop-edge
decreases-loop-edge l = length l.left.items
