use Rattle.std.proofs.Common.{◌≡◌, ◌++◌, ◌-◌, map}
use Rattle.std.specs.List.{range_with_len}
use Rattle.check_findings.specs.Finding.{idle}
use Rattle.check_findings.specs.FindingOf.{seen}
use Rattle.check_findings.proofs.idle.add_each.Given as goal

-- what was found, and what the numbers that are left will add, is what all of them add
abbrev pub invariant-loop-number : goal.invariant-loop-number
invariant-loop-number l = map seen l.found.items
    ++ map (λ place. idle place place) (range_with_len l.number (l.below - l.number))
    ≡ map seen l.fn.found.items
    ++ map (λ place. idle place place) (range_with_len l.fn.from (l.fn.below - l.fn.from))
