use Rattle.print_lines.proofs.Passing.{◌⊳◌}
use Rattle.check_findings.proofs.pasting.put_pattern.Goals as goal

pub returns : goal.returns
returns g c =
    c.put.ensures ⊳ c.put_op.ensures ⊳ c.put-2.ensures ⊳ c.put_part.ensures ⊳ c.put-3.ensures ⊳ c.put_part-2.ensures
    ⊳ c.put-4.ensures ⊳ c.put_part-3.ensures ⊳ c.put_gap.ensures ⊳ c.put-5.ensures
