use Rattle.std.proofs.Common.{◌≡◌, map, drop}
use Rattle.std.specs.Prelude.{is_some}
use Rattle.std.specs.List.{list_any}
use Rattle.check_findings.specs.FindingOf.{seen}
use Rattle.check_findings.specs.Shared.{shared_onto}
use Rattle.check_findings.proofs.marking.is_shared_at.Given as goal

-- none of the findings so far shares the mark
abbrev pub invariant-loop-finding : goal.invariant-loop-finding
invariant-loop-finding l =
    list_any (λ finding. is_some (shared_onto l.head.number finding)) (map seen (drop l.finding-index l.findings))
    ≡ list_any (λ finding. is_some (shared_onto l.head.number finding)) (map seen l.findings)
