use Rattle.std.proofs.Common.{◌≤◌, map, take}
use Rattle.base_notes.specs.EdgeOf.{edge_of}
use Rattle.check_deck.specs.FindingsOf.{IsInsideIn}
use Rattle.check_deck.specs.Insides.{AreSoMany}
use Rattle.check_deck.proofs.nested.loops_round.Given as goal

-- of the edges so far `many` have a loop round the inner one
abbrev pub invariant-loop-outer : goal.invariant-loop-outer
invariant-loop-outer l = record {
  few : l.many ≤ l.outer-index;
  so_far : AreSoMany (λ outer. IsInsideIn l.nesting.flow.now outer (edge_of l.inner)) (map edge_of (take l.outer-index l.edges))
      l.many;
}
