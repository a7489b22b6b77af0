use Rattle.std.proofs.Common.{◌≡◌, suc, ◌-◌}
use Rattle.base_notes.specs.Allowed.{matching}
use Rattle.flow_graph.specs.Executed.{with_new}
use Rattle.flow_graph.specs.Found.{places_of, targets_by}
use Rattle.flow_graph.proofs.Matched.{matching_from}
use Rattle.flow_graph.proofs.location_set.LocationSet.add_pattern.Given as goal

-- what is there, and what the instructions from this data address on will add, is what all of the
-- pattern add
abbrev pub invariant-loop-d : goal.invariant-loop-d
invariant-loop-d l =
    with_new (places_of l.self) (targets_by l.notes (matching_from l.pattern l.d))
    ≡ with_new (places_of l.fn.self) (targets_by l.notes (matching l.pattern))

abbrev pub decreases-loop-d : goal.decreases-loop-d
decreases-loop-d l = suc l.pattern.d_to - l.d
