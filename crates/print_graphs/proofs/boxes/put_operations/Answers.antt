use Rattle.std.proofs.Common.{arith}
use Rattle.std.proofs.lemmas.Grind.{common_steps}
use Rattle.print_graphs.proofs.boxes.put_operations.Goals as goal

pub loop-op-preserved : goal.loop-op-preserved
loop-op-preserved g c = grind (arith, common_steps)

pub returns : goal.returns
returns g c = grind (arith, common_steps)
