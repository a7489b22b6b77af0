use Rattle.std.proofs.Common.{flat_map, take}
use Rattle.std.specs.List.{enumerate_from}
use Rattle.print_lines.specs.Stands.{Passes}
use Rattle.program_replay.specs.Coverage.{mark_line_at}
use Rattle.program_replay.specs.CoverageOf.{passed_at}
use Rattle.program_replay.proofs.coverage_lines.put_marks.Given as goal

-- the lines so far were put
abbrev pub invariant-loop-place : goal.invariant-loop-place
invariant-loop-place g l =
    Passes (g.O.Output.device l.fn.writer) l.fn.sheet (g.O.Output.device l.writer) l.sheet
    (flat_map (mark_line_at (passed_at l.coverage)) (take l.place (enumerate_from 0 l.marks)))
