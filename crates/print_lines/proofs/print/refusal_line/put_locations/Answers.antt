use Rattle.std.proofs.Common.{arith}
use Rattle.std.proofs.lemmas.Grind.{common_steps}
use Rattle.print_lines.proofs.print.refusal_line.put_locations.Goals as goal

pub loop-location-preserved : goal.loop-location-preserved
loop-location-preserved g c = grind (arith, common_steps)

pub returns : goal.returns
returns g c = grind (arith, common_steps)
