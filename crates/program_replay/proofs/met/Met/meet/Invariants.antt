use Rattle.std.proofs.Common.{◌≡◌, ◌||◌, Bool, length, map}
use Rattle.base_notes.specs.declared.notes.pattern.Pattern.{Pattern}
use Rattle.program_replay.specs.Coverage.{is_match}
use Rattle.program_replay.proofs.Flags.{mixed}
use Rattle.program_replay.proofs.met.Met.meet.Given as goal

-- the flags before the place are set, and the others are as they were
abbrev pub invariant-loop-place : goal.invariant-loop-place
invariant-loop-place l = record {
  size : length l.self-inside.flags.items ≡ length l.patterns;
  so_far : (flag : Pattern → Bool) → l.initial.self-inside.flags.items ≡ map flag l.patterns
      → l.self-inside.flags.items
      ≡ mixed flag (λ pattern. flag pattern || is_match pattern l.instruction) l.place l.patterns;
}
