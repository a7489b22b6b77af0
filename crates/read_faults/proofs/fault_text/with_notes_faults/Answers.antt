use Rattle.std.proofs.Common.{arith}
use Rattle.std.proofs.lemmas.Grind.{common_steps}
use Rattle.read_faults.proofs.fault_text.with_notes_faults.Goals as goal

pub loop-fault-preserved-in_ok-text-10 : goal.loop-fault-preserved-in_ok-text-10
loop-fault-preserved-in_ok-text-10 c = grind (arith, common_steps)

pub loop-fault-preserved-in_ok-text-6 : goal.loop-fault-preserved-in_ok-text-6
loop-fault-preserved-in_ok-text-6 c = grind (arith, common_steps)

pub loop-fault-preserved-in_ok-text-7 : goal.loop-fault-preserved-in_ok-text-7
loop-fault-preserved-in_ok-text-7 c = grind (arith, common_steps)

pub loop-fault-preserved-in_ok-text-8 : goal.loop-fault-preserved-in_ok-text-8
loop-fault-preserved-in_ok-text-8 c = grind (arith, common_steps)

pub loop-fault-preserved-in_ok-text-9 : goal.loop-fault-preserved-in_ok-text-9
loop-fault-preserved-in_ok-text-9 c = grind (arith, common_steps)
