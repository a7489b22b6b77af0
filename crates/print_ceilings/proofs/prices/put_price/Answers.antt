use Rattle.std.proofs.Common.{append_assoc}
use Rattle.print_lines.proofs.Passing.{◌⊳◌, passes_as}
use Rattle.print_ceilings.proofs.prices.put_price.Goals as goal

pub returns : goal.returns
returns g c =
    passes_as (simp append_assoc)
    (c.put.ensures ⊳ c.put_location.ensures ⊳ c.put-2.ensures ⊳ c.put_location-2.ensures ⊳ c.put_named.ensures
    ⊳ c.put_named-2.ensures ⊳ c.put_name.ensures ⊳ c.put-3.ensures)
