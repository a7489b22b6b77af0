use Rattle.std.proofs.Common.{take}
use Rattle.machine_steps.specs.OpenIn.{between}
use Rattle.ceiling_rounds.proofs.OpeningLaws.{AreOfStep}
use Rattle.ceiling_rounds.proofs.openings.of_step.Given as goal

-- those of the calls so far
abbrev pub invariant-loop-index : goal.invariant-loop-index
invariant-loop-index l = AreOfStep l.calls (between l.from l.onto) (take l.index l.calls) l.openings.items
