use Rattle.print_lines.proofs.Passing.{◌⊳◌}
use Rattle.print_graphs.proofs.arrows.put_arrow.Goals as goal

pub returns : goal.returns
returns g c = c.put_location.ensures ⊳ c.put.ensures ⊳ c.put_location-2.ensures
