use Rattle.std.proofs.Common.{suc, ◌-◌, Contains}
use Rattle.std.specs.Prelude.{flat_map}
use Rattle.base_notes.specs.Allowed.{matching}
use Rattle.check_findings.specs.Idle.{names}
use Rattle.check_findings.specs.NamedOf.{IsNamedIn}
use Rattle.check_findings.proofs.NamedFlags.{AreLeft}
use Rattle.check_findings.proofs.named.Named.add_pattern.Given as goal

-- what is set, and what the instructions from this data address on name, is what was set, and what
-- all of the pattern name
abbrev pub invariant-loop-d : goal.invariant-loop-d
invariant-loop-d l =
    AreLeft (Contains (flat_map names (matching l.fn.pattern))) l.fn.self.flags.items
    (IsNamedIn l.pattern l.d (suc l.pattern.d_to)) l.self.flags.items

abbrev pub decreases-loop-d : goal.decreases-loop-d
decreases-loop-d l = suc l.pattern.d_to - l.d
