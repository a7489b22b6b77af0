use Rattle.std.proofs.Common.{ℕ, ◌<◌, get_or}
use Rattle.base_notes.specs.declared.notes.pattern.Pattern.{Pattern}
use Rattle.base_notes.specs.Allowed.{Matches}
use Rattle.machine_emulator.proofs.monitor.allowed.has_match.Given as goal

-- none so far matches
abbrev pub invariant-loop-pattern : goal.invariant-loop-pattern
invariant-loop-pattern l = (k : ℕ) (d : Pattern) → k < l.pattern-index → ¬ Matches (get_or l.patterns k d) l.instruction
