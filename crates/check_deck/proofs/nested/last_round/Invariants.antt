use Rattle.std.proofs.Common.{map, take}
use Rattle.base_notes.specs.EdgeOf.{edge_of}
use Rattle.check_deck.specs.FindingsOf.{IsInsideIn}
use Rattle.check_deck.specs.Insides.{IsLastNumber, IsMarkRound}
use Rattle.check_deck.proofs.nested.last_round.Given as goal

-- the last of the marks so far
abbrev pub invariant-loop-place : goal.invariant-loop-place
invariant-loop-place l =
    IsLastNumber (IsMarkRound (IsInsideIn l.nesting.flow.now) (map edge_of l.mark)) (take l.place l.marks) l.number
