use Rattle.std.proofs.Common.{ap}
use Rattle.print_lines.proofs.Passing.{passes_as}
use Rattle.program_replay.specs.Coverage.{mark_line, mark_line_at}
use Rattle.program_replay.specs.CoverageOf.{passed_at}
use Rattle.print_lines.proofs.Lines.{numbered_last, numbered_more}
use Rattle.program_replay.proofs.coverage_lines.put_marks.Goals as goal

pub loop-place-preserved : goal.loop-place-preserved
loop-place-preserved g c =
    numbered_more (mark_line_at (passed_at c.args.coverage.now)) c.args.marks.now c.loop-place.place
    c.index-marks-place.result c.loop-place-test.true c.index-marks-place.is c.loop-place.invariant
    (passes_as (ap (mark_line c.index-marks-place.result) c.passed.ensures) c.put_mark.ensures)

pub returns : goal.returns
returns g c =
    numbered_last (mark_line_at (passed_at c.args.coverage.now)) c.args.marks.now c.loop-place.place
    c.loop-place-test.false c.loop-place.invariant
