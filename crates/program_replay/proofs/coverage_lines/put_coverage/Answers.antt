use Rattle.print_lines.proofs.Passing.{◌⊳◌, passes_as}
use Rattle.program_replay.proofs.LineTexts.{lists_seen, marks_seen}
use Rattle.program_replay.proofs.coverage_lines.put_coverage.Goals as goal

pub returns : goal.returns
returns g c strides seen =
    let notes = c.args.notes.now in
    let coverage = c.args.coverage.now in
    passes_as (marks_seen notes strides coverage seen c.marks.result.now c.marks.ensures.all) c.put_marks.ensures
    ⊳ passes_as (lists_seen notes strides coverage seen c.lists.result.now c.lists.ensures.all) c.put_lists.ensures
