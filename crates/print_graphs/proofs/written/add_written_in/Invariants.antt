use Rattle.std.proofs.Common.{◌≡◌, suc, ◌-◌}
use Rattle.std.specs.Prelude.{flat_map}
use Rattle.base_notes.specs.Allowed.{matching}
use Rattle.flow_graph.specs.Executed.{with_new}
use Rattle.flow_graph.specs.Flow.{executed_in}
use Rattle.flow_graph.specs.Found.{places_of}
use Rattle.flow_graph.proofs.Matched.{matching_from}
use Rattle.print_graphs.specs.Graph.{executed_writes}
use Rattle.print_graphs.proofs.written.add_written_in.Given as goal

-- what is there, and what the instructions from this data address on will add, is what all of the
-- pattern add
abbrev pub invariant-loop-d : goal.invariant-loop-d
invariant-loop-d l =
    with_new (places_of l.written) (flat_map (executed_writes (executed_in l.flow)) (matching_from l.pattern l.d))
    ≡ with_new (places_of l.fn.written) (flat_map (executed_writes (executed_in l.flow)) (matching l.pattern))

abbrev pub decreases-loop-d : goal.decreases-loop-d
decreases-loop-d l = suc l.pattern.d_to - l.d
