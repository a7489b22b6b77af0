use Rattle.print_lines.proofs.Passing.{◌⊳◌}
use Rattle.program_replay.proofs.coverage_lines.put_mark.Goals as goal

pub returns : goal.returns
returns g c =
    c.put.ensures ⊳ c.put_location.ensures ⊳ c.put-2.ensures ⊳ c.put_location-2.ensures ⊳ c.put-3.ensures
    ⊳ c.put_number.ensures ⊳ c.put-4.ensures ⊳ c.put_number-2.ensures ⊳ c.put_name.ensures ⊳ c.put-5.ensures
