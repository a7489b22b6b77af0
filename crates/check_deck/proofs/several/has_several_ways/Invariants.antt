use Rattle.std.proofs.Common.{map, take}
use Rattle.base_notes.specs.EdgeOf.{edge_of}
use Rattle.check_deck.specs.FindingsOf.{IsInsideIn}
use Rattle.check_deck.specs.Insides.{IsRound}
use Rattle.check_deck.proofs.Ways.{AreSeen}
use Rattle.check_deck.proofs.several.has_several_ways.Given as goal

-- where the marks so far go back to, no two of them to one location
abbrev pub invariant-loop-other : goal.invariant-loop-other
invariant-loop-other l =
    AreSeen (IsRound (IsInsideIn l.nesting.flow.now) (map edge_of l.mark)) (take l.other-index l.marks)
    (map (λ head. head.number) l.seen.items)
