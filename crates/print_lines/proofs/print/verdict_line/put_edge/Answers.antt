use Rattle.std.proofs.Common.{append_assoc}
use Rattle.print_lines.proofs.Passing.{◌⊳◌, passes_as}
use Rattle.print_lines.proofs.print.verdict_line.put_edge.Goals as goal

pub returns : goal.returns
returns g c =
    passes_as (simp append_assoc)
    (c.put.ensures ⊳ c.put_location.ensures ⊳ c.put-2.ensures ⊳ c.put_location-2.ensures ⊳ c.put_at_step.ensures)
