use Rattle.std.proofs.Common.{arith}
use Rattle.machine_steps.proofs.Passing.{counted_more}
use Rattle.machine_steps.proofs.passes.count_pass.Goals as goal

pub loop-place-preserved : goal.loop-place-preserved
loop-place-preserved c =
    counted_more c.args.marks.now c.args.passed c.loop-place.place c.loop-place.counts c.args.counts.now
    c.count_after.result (omega arith) (omega arith) (omega arith) c.count_after.ensures c.loop-place.invariant
