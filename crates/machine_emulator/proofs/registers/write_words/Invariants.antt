use Rattle.std.proofs.Common.{◌≡◌, ◌+◌, drop, vec_len}
use Rattle.machine_steps.specs.Effect.{with_words}
use Rattle.machine_emulator.proofs.registers.write_words.Given as goal

-- what is written, and what is left to be
abbrev pub invariant-loop-place : goal.invariant-loop-place
invariant-loop-place l =
    (with_words l.drum.items (l.at + l.place) (drop l.place l.words) ≡ with_words l.initial.drum.items l.at l.words)
    × (vec_len l.drum ≡ vec_len l.initial.drum)
