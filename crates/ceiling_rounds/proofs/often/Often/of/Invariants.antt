use Rattle.std.proofs.Common.{◌≡◌, ◌+◌, ℕ, drop, length}
use Rattle.std.specs.Prelude.{sum_by}
use Rattle.flow_walks.specs.Pieces.{spelled, PlacedHop}
use Rattle.ceiling_rounds.specs.InRounds.{summed}
use Rattle.ceiling_rounds.specs.OftenOf.{owed}
use Rattle.ceiling_rounds.proofs.OftenLaws.{worth}
use Rattle.ceiling_rounds.proofs.often.Often.of.Given as goal

-- what is added up over the walk is what those stand for that are left, and what was found
abbrev pub invariant-loop-number : goal.invariant-loop-number
invariant-loop-number l = record {
  each : length l.often.often.items ≡ length l.pieces;
  adds : (what : PlacedHop → ℕ) → owed (worth what l.pieces) l.often.often.items l.number
      + summed what (drop l.number l.pieces) (drop l.number l.often.often.items)
      ≡ sum_by what (spelled l.pieces);
  hops : l.often.hops ≡ summed (λ _. 1) (drop l.number l.pieces) (drop l.number l.often.often.items);
}
