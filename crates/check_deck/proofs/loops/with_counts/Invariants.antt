use Rattle.std.proofs.Common.{◌≡◌, map, take}
use Rattle.std.specs.Prelude.{All}
use Rattle.base_notes.specs.EdgeOf.{edge_of}
use Rattle.check_deck.specs.declared.loops.Counted.{Counted}
use Rattle.check_deck.specs.FindingsOf.{IsInsideIn}
use Rattle.check_deck.specs.Insides.{AreSoMany}
use Rattle.check_deck.proofs.loops.with_counts.Given as goal

-- the edges so far, each with its count
abbrev pub invariant-loop-edge : goal.invariant-loop-edge
invariant-loop-edge l = record {
  same : map (λ (one : Counted). edge_of one.edge) l.counted.items ≡ map edge_of (take l.edge-index l.edges);
  counts : All (λ (one : Counted). AreSoMany (λ outer. IsInsideIn l.nesting.flow.now outer (edge_of one.edge)) (map edge_of l.edges)
      one.many) l.counted.items;
}
