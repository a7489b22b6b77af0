use Rattle.std.proofs.Common.{[]}
use Rattle.print_lines.proofs.telling.tell_complaint.Goals as goal

pub returns : goal.returns
returns g c =
    c.end_complaint.ensures _ _ (c.put.ensures.stands _ [] (c.new-sheet.ensures _))
