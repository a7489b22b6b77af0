use Rattle.std.proofs.Common.{arith}
use Rattle.std.proofs.lemmas.Grind.{common_steps}
use Rattle.print_lines.proofs.print.refusal_line.put_alters.Goals as goal

pub returns : goal.returns
returns g c = grind (arith, common_steps)
