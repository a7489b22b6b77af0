use Rattle.print_lines.proofs.Passing.{◌⊳◌}
use Rattle.check_findings.proofs.marking.put_long.Goals as goal

pub returns-then-long : goal.returns-then-long
returns-then-long g c = rw c.if-long.true (c.put.ensures ⊳ c.put-then-long.ensures)
