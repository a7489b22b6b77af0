use Rattle.std.proofs.Common.{◌≡◌, ◌-◌}
use Rattle.std.specs.Prelude.{filter}
use Rattle.std.specs.List.{range_with_len}
use Rattle.flow_graph.specs.Executed.{with_new}
use Rattle.flow_graph.specs.Flow.{executed_in}
use Rattle.flow_graph.specs.Found.{places_of}
use Rattle.check_findings.specs.FoundAt.{altered_by, is_fixed}
use Rattle.check_findings.proofs.altered.add_altered_by.Given as goal

-- what is there, and what the words that are left will add, is what all of them add
abbrev pub invariant-loop-number : goal.invariant-loop-number
invariant-loop-number l =
    with_new (places_of l.altered) (filter (is_fixed l.flow.notes.now (executed_in l.flow))
    (range_with_len l.number (l.number-end - l.number)))
    ≡ with_new (places_of l.fn.altered) (altered_by l.flow.notes.now (executed_in l.flow) l.fn.instruction)
