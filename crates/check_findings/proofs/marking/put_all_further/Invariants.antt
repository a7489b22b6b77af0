use Rattle.std.proofs.Common.{flat_map, map, take}
use Rattle.print_lines.specs.Stands.{Passes}
use Rattle.check_findings.specs.FindingOf.{seen}
use Rattle.check_findings.specs.Lacking.{further_text}
use Rattle.check_findings.proofs.marking.put_all_further.Given as goal

-- those of the findings so far
abbrev pub invariant-loop-finding : goal.invariant-loop-finding
invariant-loop-finding g l =
    Passes (g.O.Output.device l.fn.writer) l.fn.sheet (g.O.Output.device l.writer) l.sheet
    (flat_map (further_text l.head.number) (map seen (take l.finding-index l.findings)))
