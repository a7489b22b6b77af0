use Rattle.std.proofs.Common.{append_assoc}
use Rattle.print_lines.proofs.Passing.{◌⊳◌, passes_as}
use Rattle.print_ceilings.proofs.part_line.put_end_rounds.Goals as goal

pub returns : goal.returns
returns g c =
    passes_as (simp append_assoc) (c.put_named.ensures ⊳ c.put_named-2.ensures ⊳ c.put.ensures)
