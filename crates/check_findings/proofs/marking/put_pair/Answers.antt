use Rattle.std.proofs.Common.{arith}
use Rattle.std.proofs.lemmas.Grind.{common_steps}
use Rattle.check_findings.proofs.marking.put_pair.Goals as goal

pub returns : goal.returns
returns g c = grind (arith, common_steps)
