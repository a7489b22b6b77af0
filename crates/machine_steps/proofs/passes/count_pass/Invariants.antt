use Rattle.machine_steps.proofs.Passing.{CountedBelow}
use Rattle.machine_steps.proofs.passes.count_pass.Given as goal

abbrev pub invariant-loop-place : goal.invariant-loop-place
invariant-loop-place l = CountedBelow l.marks l.passed l.place l.counts l.initial.counts
