use Rattle.std.proofs.Common.{[]}
use Rattle.print_lines.proofs.telling.tell_verdict.Goals as goal

pub returns : goal.returns
returns g c =
    rw c.after.ensures at (c.end_result.ensures _ _ (c.put_verdict.ensures.stands _ [] (c.new-sheet.ensures _)))
