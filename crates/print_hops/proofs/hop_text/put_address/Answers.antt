use Rattle.print_lines.proofs.Passing.{◌⊳◌, passes_as}
use Rattle.print_hops.proofs.hop_text.put_address.Goals as goal

pub returns : goal.returns
returns g c = c.put.ensures ⊳ passes_as c.four_digits.ensures c.put-2.ensures
