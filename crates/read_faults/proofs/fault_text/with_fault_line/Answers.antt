use Rattle.std.proofs.Common.{arith}
use Rattle.std.proofs.lemmas.Grind.{common_steps}
use Rattle.read_faults.proofs.fault_text.with_fault_line.Goals as goal

pub returns : goal.returns
returns g c = grind (arith, common_steps)
