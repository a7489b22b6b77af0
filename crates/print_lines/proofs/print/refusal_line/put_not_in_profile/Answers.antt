use Rattle.print_lines.proofs.Passing.{◌⊳◌, passes_as}
use Rattle.print_lines.proofs.print.refusal_line.put_not_in_profile.Goals as goal

pub returns : goal.returns
returns g c =
    c.put.ensures ⊳ c.put_location.ensures ⊳ c.put-2.ensures ⊳ passes_as c.two_digits.ensures c.put-3.ensures ⊳ c.put-4.ensures
