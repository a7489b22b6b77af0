use Rattle.std.proofs.Common.{arith}
use Rattle.std.proofs.lemmas.Grind.{common_steps}
use Rattle.read_faults.proofs.loaded.loaded_by.Goals as goal

pub loop-location-preserved : goal.loop-location-preserved
loop-location-preserved c = grind (arith, common_steps)

pub returns : goal.returns
returns c = grind (arith, common_steps)
