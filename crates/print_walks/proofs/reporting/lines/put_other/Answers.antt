use Rattle.std.proofs.Common.{arith}
use Rattle.std.proofs.lemmas.Grind.{common_steps}
use Rattle.print_walks.proofs.reporting.lines.put_other.Goals as goal

pub returns : goal.returns
returns g c = grind (arith, common_steps)
