use Rattle.std.proofs.Common.{◌≡◌, ◌||◌, ◌&&◌, ◌==◌, Bool, length, map}
use Rattle.base_notes.specs.declared.notes.pattern.Pattern.{Pattern}
use Rattle.base_notes.specs.Allowed.{Listed}
use Rattle.base_notes.specs.Listed.{listed}
use Rattle.program_replay.specs.Coverage.{is_match}
use Rattle.program_replay.specs.CoverageOf.{flags_of}
use Rattle.program_replay.proofs.Flags.{mixed}
use Rattle.program_replay.proofs.Seen.{row}
use Rattle.program_replay.proofs.coverage.Coverage.meet.Given as goal

-- the flags of the lists before the place are set, and the others are as they were
abbrev pub invariant-loop-place : goal.invariant-loop-place
invariant-loop-place l = record {
  size : length l.self.met.items ≡ length l.lists;
  so_far : (flag : Listed → Pattern → Bool) → l.fn.self.met.items ≡ flags_of flag (map listed l.lists)
      → l.self.met.items
      ≡ mixed (row flag) (row (λ list pattern. flag list pattern
      || (l.location.number == list.location && is_match pattern l.instruction))) l.place l.lists;
  counts : l.self.counts ≡ l.fn.self.counts;
  highest : l.self.highest ≡ l.fn.self.highest;
}
