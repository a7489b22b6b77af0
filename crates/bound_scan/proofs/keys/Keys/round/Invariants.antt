use Rattle.std.proofs.Common.{◌≡◌, ℕ, ◌<◌, length, None}
use Rattle.std.specs.Prelude.{slice_index_or}
use Rattle.flow_graph.specs.Flow.{notes_of}
use Rattle.bound_scan.specs.Digits.{digits}
use Rattle.bound_scan.specs.RoundOf.{IsPassed}
use Rattle.bound_scan.proofs.keys.Keys.round.Given as goal

-- the first marks have what their passes lead to
abbrev pub invariant-loop-place : goal.invariant-loop-place
invariant-loop-place l = record {
  places : length l.passed ≡ 64;
  passed : (k : ℕ) → k < l.place
      → IsPassed l.self.accepted.now (digits (notes_of l.self.accepted.now.flow).marks l.leading) k
      (slice_index_or l.passed k None);
}
