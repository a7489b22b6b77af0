use Rattle.std.proofs.Common.{arith}
use Rattle.std.proofs.lemmas.Grind.{common_steps}
use Rattle.print_hops.proofs.step_line.put_course.Goals as goal

pub returns : goal.returns
returns g c = grind (arith, common_steps)
