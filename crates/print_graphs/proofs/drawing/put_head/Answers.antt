use Rattle.print_lines.proofs.Passing.{◌⊳◌}
use Rattle.print_graphs.proofs.drawing.put_head.Goals as goal

pub returns : goal.returns
returns g c = c.put.ensures ⊳ c.put_location.ensures ⊳ c.put-2.ensures
