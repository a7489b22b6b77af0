use Rattle.std.proofs.Common.{ap}
use Rattle.base_notes.specs.Listed.{listed}
use Rattle.print_lines.proofs.Passing.{passes_as}
use Rattle.program_replay.specs.Coverage.{list_line}
use Rattle.program_replay.specs.CoverageOf.{list_line_at}
use Rattle.print_lines.proofs.Lines.{numbered_last, numbered_more}
use Rattle.program_replay.proofs.coverage_lines.put_lists.Goals as goal

pub loop-place-preserved : goal.loop-place-preserved
loop-place-preserved g c =
    numbered_more (list_line_at c.args.coverage.now) c.args.lists.now c.loop-place.place c.index-lists-place.result
    c.loop-place-test.true c.index-lists-place.is c.loop-place.invariant
    (passes_as (ap (list_line (listed c.index-lists-place.result)) c.met.ensures) c.put_list.ensures)

pub returns : goal.returns
returns g c =
    numbered_last (list_line_at c.args.coverage.now) c.args.lists.now c.loop-place.place c.loop-place-test.false
    c.loop-place.invariant
