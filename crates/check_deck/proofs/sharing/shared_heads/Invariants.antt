use Rattle.std.proofs.Common.{map, take}
use Rattle.base_notes.specs.EdgeOf.{edge_of}
use Rattle.check_deck.specs.FindingsOf.{IsInsideIn}
use Rattle.check_deck.specs.Insides.{ShareMark}
use Rattle.check_deck.proofs.Heads.{AreTold}
use Rattle.check_deck.proofs.sharing.shared_heads.Given as goal

-- the locations that the edges so far go back to and share a mark at
abbrev pub invariant-loop-index : goal.invariant-loop-index
invariant-loop-index l =
    AreTold (ShareMark (IsInsideIn l.nesting.flow.now) (map edge_of l.inners) (map edge_of l.edges))
    (map edge_of (take l.index l.edges)) (map (λ head. head.number) l.shared.items)
