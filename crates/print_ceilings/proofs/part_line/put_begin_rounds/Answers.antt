use Rattle.print_lines.proofs.Passing.{◌⊳◌, passes_as}
use Rattle.print_ceilings.proofs.part_line.put_begin_rounds.Goals as goal

pub returns : goal.returns
returns g c =
    c.put_named.ensures ⊳ c.put.ensures ⊳ passes_as c.four_digits.ensures c.put-2.ensures ⊳ c.put-3.ensures
    ⊳ passes_as c.four_digits-2.ensures c.put-4.ensures ⊳ c.put-5.ensures
