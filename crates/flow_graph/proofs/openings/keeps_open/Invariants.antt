use Rattle.std.proofs.Common.{◌≡◌, ℕ, ◌<◌, take, Some, None}
use Rattle.std.specs.Prelude.{slice_get}
use Rattle.base_notes.specs.declared.notes.call.Call.{Call}
use Rattle.machine_steps.specs.Calls.{opened_by}
use Rattle.machine_steps.specs.OpenIn.{between}
use Rattle.flow_graph.proofs.openings.keeps_open.Given as goal

-- none of the calls so far is made along the edge, nor leaves the location by its exit
abbrev pub invariant-loop-call : goal.invariant-loop-call
invariant-loop-call l = record {
  none : (exit : ℕ) → opened_by (take l.call-index l.calls) (between l.from l.onto) exit ≡ None;
  others : (k : ℕ) (call : Call) → k < l.call-index → slice_get l.calls k ≡ Some call
      → ¬ (call.exit.number ≡ l.from.number);
}
