use Rattle.std.proofs.Common.{List, take}
use Rattle.base_notes.specs.declared.notes.call.Call.{Call}
use Rattle.machine_steps.specs.Calls.{none_open}
use Rattle.ceiling_rounds.specs.Opening.{Meet}
use Rattle.ceiling_rounds.proofs.openings.ask_nothing.Given as goal

-- those so far ask nothing
abbrev pub invariant-loop-opening : goal.invariant-loop-opening
invariant-loop-opening l = (calls : List Call) → Meet (take l.opening-index l.openings) (none_open calls)
