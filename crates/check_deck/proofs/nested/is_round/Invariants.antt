use Rattle.std.proofs.Common.{map, take}
use Rattle.base_notes.specs.EdgeOf.{edge_of}
use Rattle.check_deck.specs.FindingsOf.{IsInsideIn}
use Rattle.check_deck.specs.Insides.{IsRound}
use Rattle.check_deck.proofs.nested.is_round.Given as goal

-- the loops of none of the edges so far stand inside that of the outer one
abbrev pub invariant-loop-inner : goal.invariant-loop-inner
invariant-loop-inner l =
    ¬ IsRound (IsInsideIn l.nesting.flow.now) (map edge_of (take l.inner-index l.mark)) (edge_of l.outer)
