use Rattle.std.proofs.Common.{arith}
use Rattle.std.proofs.lemmas.Grind.{common_steps}
use Rattle.check_findings.proofs.lacking.Lacking.of.Goals as goal

pub loop-finding-preserved : goal.loop-finding-preserved
loop-finding-preserved c = grind (arith, common_steps)

pub returns : goal.returns
returns c = grind (arith, common_steps)
