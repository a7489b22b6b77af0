use Rattle.std.proofs.Common.{arith}
use Rattle.std.proofs.lemmas.Grind.{common_steps}
use Rattle.print_walks.proofs.table.line.put_counts.Goals as goal

pub loop-count-preserved : goal.loop-count-preserved
loop-count-preserved g c = grind (arith, common_steps)

pub returns : goal.returns
returns g c = grind (arith, common_steps)
