use Rattle.std.proofs.Common.{[]}
use Rattle.print_lines.proofs.telling.tell_fault.Goals as goal

pub returns-clause-line : goal.returns-clause-line
returns-clause-line g c =
    c.end_complaint.ensures _ _ (c.put_fault.ensures.stands _ [] (c.new-sheet.ensures _))
