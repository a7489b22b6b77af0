use Rattle.print_lines.proofs.Passing.{◌⊳◌}
use Rattle.print_hops.proofs.moments_text.put_all_moments.Goals as goal

pub returns : goal.returns
returns g c =
    c.put.ensures ⊳ c.put_number.ensures ⊳ c.put_moment.ensures ⊳ c.put_moment-2.ensures ⊳ c.put-2.ensures
    ⊳ c.put_number-2.ensures ⊳ c.put-3.ensures
