use Rattle.std.proofs.Common.{◌≡◌, ℕ, ◌<◌, Some}
use Rattle.std.specs.Prelude.{slice_get}
use Rattle.machine_steps.specs.OpenIn.{open_in}
use Rattle.flow_graph.specs.InNodes.{ways_in}
use Rattle.flow_graph.proofs.openings.index_of.Given as goal

-- none of those so far is the same
abbrev pub invariant-loop-index : goal.invariant-loop-index
invariant-loop-index l =
    (k : ℕ) → k < l.index → ¬ (slice_get (ways_in l.calls l.openings) k ≡ Some (open_in l.ways l.calls))
