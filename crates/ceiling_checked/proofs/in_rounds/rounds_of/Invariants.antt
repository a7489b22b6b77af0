use Rattle.std.proofs.Common.{◌≡◌, ℕ, ◌+◌, ◌≤◌, ◌<◌, length}
use Rattle.std.specs.Prelude.{slice_index}
use Rattle.flow_graph.specs.Accepted.{capped}
use Rattle.ceiling_checked.specs.InRounds.{passes_inside}
use Rattle.ceiling_checked.proofs.in_rounds.rounds_of.Given as goal

-- those of the last marks are right, which no earlier one stands inside of
abbrev pub invariant-loop-place : goal.invariant-loop-place
invariant-loop-place l = record {
  long : length l.rounds.items ≡ length l.marks;
  each : (k : ℕ) → k < length l.marks → length l.marks ≤ k + l.place
      → slice_index l.rounds.items k ≡ capped (1 + passes_inside l.marks k 0 l.marks l.rounds.items);
}
