use Rattle.std.proofs.Common.{append_assoc}
use Rattle.print_lines.proofs.Passing.{◌⊳◌, passes_as}
use Rattle.print_walks.proofs.table.line.put_place.Goals as goal

pub returns : goal.returns
returns g c = passes_as (simp append_assoc) (c.put_location.ensures ⊳ c.put_named.ensures ⊳ c.put.ensures)
