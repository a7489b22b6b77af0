use Rattle.std.proofs.Common.{map, take}
use Rattle.base_notes.specs.EdgeOf.{edge_of}
use Rattle.check_deck.specs.FindingsOf.{IsInsideIn}
use Rattle.check_deck.specs.Insides.{AreHeads, IsRound}
use Rattle.check_deck.proofs.several.heads_round.Given as goal

-- where the edges so far go back to whose loops stand round the mark's
abbrev pub invariant-loop-outer : goal.invariant-loop-outer
invariant-loop-outer l =
    AreHeads (IsRound (IsInsideIn l.nesting.flow.now) (map edge_of l.mark)) (map edge_of (take l.outer-index l.edges))
    (map (λ head. head.number) l.heads.items)
