use Rattle.std.proofs.Common.{flat_map, map, take}
use Rattle.print_lines.specs.Stands.{Passes}
use Rattle.check_findings.specs.FindingOf.{seen}
use Rattle.check_findings.specs.FindingsText.{finding_text}
use Rattle.check_findings.proofs.listing.put_findings.Given as goal

-- the lines so far
abbrev pub invariant-loop-finding : goal.invariant-loop-finding
invariant-loop-finding g l =
    Passes (g.O.Output.device l.fn.writer) l.fn.sheet (g.O.Output.device l.writer) l.sheet
    (flat_map finding_text (map seen (take l.finding-index l.findings)))
