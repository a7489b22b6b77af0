use Rattle.std.proofs.Common.{◌≡◌, ◌+◌}
use Rattle.check_findings.specs.Idle.{idle_from}
use Rattle.check_findings.specs.NamedOf.{is_idle_in}
use Rattle.check_findings.proofs.idle.idle_from.Given as goal

-- those that were counted, and those from here on, are all from the first number on
abbrev pub invariant-loop-number : goal.invariant-loop-number
invariant-loop-number l =
    (l.count + idle_from (is_idle_in l.flow) l.number ≡ idle_from (is_idle_in l.flow) l.fn.from)
    × (l.fn.from + l.count ≡ l.number)
