use Rattle.std.proofs.Common.{arith}
use Rattle.std.proofs.lemmas.Grind.{common_steps}
use Rattle.read_faults.proofs.fault_text.with_times_faults.Goals as goal

pub loop-fault-preserved-in_ok-text : goal.loop-fault-preserved-in_ok-text
loop-fault-preserved-in_ok-text c = grind (arith, common_steps)

pub loop-fault-preserved-in_ok-text-2 : goal.loop-fault-preserved-in_ok-text-2
loop-fault-preserved-in_ok-text-2 c = grind (arith, common_steps)

pub loop-fault-preserved-in_ok-text-3 : goal.loop-fault-preserved-in_ok-text-3
loop-fault-preserved-in_ok-text-3 c = grind (arith, common_steps)

pub loop-fault-preserved-in_ok-text-4 : goal.loop-fault-preserved-in_ok-text-4
loop-fault-preserved-in_ok-text-4 c = grind (arith, common_steps)

pub loop-fault-preserved-in_ok-text-5 : goal.loop-fault-preserved-in_ok-text-5
loop-fault-preserved-in_ok-text-5 c = grind (arith, common_steps)
