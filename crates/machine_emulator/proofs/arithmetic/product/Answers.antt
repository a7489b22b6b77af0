use Rattle.std.proofs.Common.{arith}
use Rattle.std.proofs.lemmas.Grind.{common_steps}
use Rattle.machine_emulator.proofs.arithmetic.product.Goals as goal

pub returns-clause-short : goal.returns-clause-short
returns-clause-short c = grind (arith, common_steps)
