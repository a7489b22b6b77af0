use Rattle.print_lines.proofs.Passing.{◌⊳◌}
use Rattle.print_lines.proofs.print.note_fault.put_two_marks.Goals as goal

pub returns : goal.returns
returns g c =
    c.put_part.ensures ⊳ c.put_location.ensures ⊳ c.put.ensures ⊳ c.put_location-2.ensures ⊳ c.put-2.ensures
