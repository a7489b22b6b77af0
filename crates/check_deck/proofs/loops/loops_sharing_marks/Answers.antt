use Rattle.std.proofs.Common.{arith}
use Rattle.std.proofs.lemmas.Grind.{common_steps}
use Rattle.check_deck.proofs.loops.loops_sharing_marks.Goals as goal

pub returns : goal.returns
returns c = grind (arith, common_steps)
