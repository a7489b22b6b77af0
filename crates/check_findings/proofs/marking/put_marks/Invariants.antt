use Rattle.std.proofs.Common.{flat_map, map, take}
use Rattle.print_lines.specs.Stands.{Passes}
use Rattle.check_findings.specs.FindingOf.{seen}
use Rattle.check_findings.specs.Lacking.{mark_for}
use Rattle.check_findings.proofs.marking.put_marks.Given as goal

-- the marks so far
abbrev pub invariant-loop-finding : goal.invariant-loop-finding
invariant-loop-finding g l =
    Passes (g.O.Output.device l.fn.writer) l.fn.sheet (g.O.Output.device l.writer) l.sheet
    (flat_map (mark_for (map seen l.findings)) (map seen (take l.finding-index l.findings)))
