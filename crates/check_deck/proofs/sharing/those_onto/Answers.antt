use Rattle.std.proofs.Common.{arith}
use Rattle.std.proofs.lemmas.Grind.{common_steps}
use Rattle.check_deck.proofs.sharing.those_onto.Goals as goal

pub loop-edge-preserved : goal.loop-edge-preserved
loop-edge-preserved c = grind (arith, common_steps)

pub loop-edge-preserved-then-number : goal.loop-edge-preserved-then-number
loop-edge-preserved-then-number c = grind (arith, common_steps)

pub returns : goal.returns
returns c = grind (arith, common_steps)
