use Rattle.std.proofs.Common.{◌≡◌, suc, ◌-◌}
use Rattle.std.specs.List.{list_any}
use Rattle.base_notes.specs.Allowed.{matching}
use Rattle.flow_graph.proofs.Matched.{matching_from}
use Rattle.print_graphs.specs.GraphOf.{has_stop_by}
use Rattle.print_graphs.proofs.stops.pattern_may_stop.Given as goal

-- none of the instructions before this data address may stop the run
abbrev pub invariant-loop-d : goal.invariant-loop-d
invariant-loop-d l =
    list_any (has_stop_by l.notes) (matching_from l.pattern l.d)
    ≡ list_any (has_stop_by l.notes) (matching l.pattern)

abbrev pub decreases-loop-d : goal.decreases-loop-d
decreases-loop-d l = suc l.pattern.d_to - l.d
