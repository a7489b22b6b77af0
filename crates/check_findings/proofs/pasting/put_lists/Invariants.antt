use Rattle.std.proofs.Common.{flat_map, map, take}
use Rattle.print_lines.specs.Stands.{Passes}
use Rattle.check_findings.specs.Lacking.{list_text}
use Rattle.check_findings.specs.LackingOf.{pair_of}
use Rattle.check_findings.proofs.pasting.put_lists.Given as goal

-- the lists so far
abbrev pub invariant-loop-lack : goal.invariant-loop-lack
invariant-loop-lack g l =
    Passes (g.O.Output.device l.fn.writer) l.fn.sheet (g.O.Output.device l.writer) l.sheet
    (flat_map list_text (map pair_of (take l.lack-index l.words)))
