use Rattle.machine_steps.specs.OpenIn.{between}
use Rattle.machine_steps.proofs.Opening.{OpenedBelow}
use Rattle.machine_steps.proofs.open.Open.after.Given as goal

-- the ways of the calls before are those behind the step
abbrev pub invariant-loop-place : goal.invariant-loop-place
invariant-loop-place l = OpenedBelow l.calls (between l.from l.onto) l.place l.open.ways l.self.ways
