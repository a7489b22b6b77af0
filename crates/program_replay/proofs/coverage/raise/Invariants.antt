use Rattle.std.proofs.Common.{◌≡◌, ℕ, ◌≤◌, ◌<◌, max, length, slice_index}
use Rattle.program_replay.proofs.coverage.raise.Given as goal

-- those before the place are raised, and the others are as they were
abbrev pub invariant-loop-place : goal.invariant-loop-place
invariant-loop-place l = record {
  raised : (k : ℕ) → k < l.place
      → slice_index l.highest k ≡ max (slice_index l.initial.highest k) (slice_index l.counts k);
  others : (k : ℕ) → l.place ≤ k → slice_index l.highest k ≡ slice_index l.initial.highest k;
  size : length l.highest ≡ 64;
}
