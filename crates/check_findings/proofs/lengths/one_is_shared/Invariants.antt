use Rattle.std.proofs.Common.{◌≡◌, map, drop}
use Rattle.std.specs.List.{list_any}
use Rattle.check_findings.specs.FindingOf.{seen}
use Rattle.check_findings.specs.Shared.{asks_to_share}
use Rattle.check_findings.proofs.lengths.one_is_shared.Given as goal

-- none of the findings so far asks to share a mark
abbrev pub invariant-loop-finding : goal.invariant-loop-finding
invariant-loop-finding l =
    list_any asks_to_share (map seen (drop l.finding-index l.findings)) ≡ list_any asks_to_share (map seen l.findings)
