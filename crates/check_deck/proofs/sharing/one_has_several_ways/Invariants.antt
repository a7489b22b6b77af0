use Rattle.std.proofs.Common.{◌∷◌, [], map, take}
use Rattle.base_notes.specs.EdgeOf.{edge_of}
use Rattle.check_deck.specs.FindingsOf.{IsInsideIn}
use Rattle.check_deck.specs.Insides.{HasOne, HasSeveralWays, IsRound}
use Rattle.check_deck.proofs.sharing.one_has_several_ways.Given as goal

-- none of the inner edges so far has several ways round it
abbrev pub invariant-loop-inner : goal.invariant-loop-inner
invariant-loop-inner l =
    ¬ HasOne (λ inner. HasSeveralWays (IsRound (IsInsideIn l.nesting.flow.now) (inner ∷ [])) l.marks)
    (map edge_of (take l.inner-index l.inners))
