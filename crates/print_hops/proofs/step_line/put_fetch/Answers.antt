use Rattle.print_lines.proofs.Passing.{◌⊳◌, passes_as}
use Rattle.print_hops.proofs.step_line.put_fetch.Goals as goal

pub returns : goal.returns
returns g c =
    c.put.ensures ⊳ c.put_number.ensures ⊳ c.put-2.ensures ⊳ c.put_location.ensures ⊳ c.put-3.ensures
    ⊳ passes_as c.spelling_of.ensures c.put-4.ensures ⊳ c.put-5.ensures ⊳ c.put_number-2.ensures
