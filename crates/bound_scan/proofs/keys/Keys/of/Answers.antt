use Rattle.std.proofs.Common.{arith}
use Rattle.std.proofs.lemmas.Grind.{common_steps}
use Rattle.bound_scan.proofs.keys.Keys.of.Goals as goal

pub overflow_mul-size : goal.overflow_mul-size
overflow_mul-size c = grind (arith, common_steps)

pub returns-clause-keys : goal.returns-clause-keys
returns-clause-keys c = grind (arith, common_steps)
