use Rattle.machine_steps.specs.OpenIn.{between}
use Rattle.machine_steps.proofs.Opening.{LetGo}
use Rattle.machine_steps.proofs.open.Open.may_go.Given as goal

-- the calls before let the step go
abbrev pub invariant-loop-place : goal.invariant-loop-place
invariant-loop-place l = LetGo l.calls l.self.ways (between l.from l.onto) l.place
