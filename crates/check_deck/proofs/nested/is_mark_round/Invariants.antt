use Rattle.std.proofs.Common.{map, take}
use Rattle.base_notes.specs.EdgeOf.{edge_of}
use Rattle.check_deck.specs.FindingsOf.{IsInsideIn}
use Rattle.check_deck.specs.Insides.{IsMarkRound}
use Rattle.check_deck.proofs.nested.is_mark_round.Given as goal

-- none of the edges so far has a loop round the mark's
abbrev pub invariant-loop-outer : goal.invariant-loop-outer
invariant-loop-outer l =
    ¬ IsMarkRound (IsInsideIn l.nesting.flow.now) (map edge_of l.mark) (map edge_of (take l.outer-index l.edges))
