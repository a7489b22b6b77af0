use Rattle.std.proofs.Common.{◌≡◌, drop}
use Rattle.machine_steps.specs.Calls.{opened_by}
use Rattle.machine_steps.specs.OpenIn.{between}
use Rattle.machine_steps.proofs.open.opened_by.Given as goal

-- what is left opens what all do
abbrev pub invariant-loop-call : goal.invariant-loop-call
invariant-loop-call l =
    opened_by (drop l.call-index l.calls) (between l.from l.onto) l.exit.number
    ≡ opened_by l.calls (between l.from l.onto) l.exit.number
