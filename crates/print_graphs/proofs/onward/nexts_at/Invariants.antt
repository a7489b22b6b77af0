use Rattle.std.proofs.Common.{◌≡◌, [], map, take}
use Rattle.std.specs.Prelude.{filter}
use Rattle.flow_graph.specs.Executed.{with_new}
use Rattle.flow_graph.specs.Flow.{nodes_of}
use Rattle.flow_graph.specs.Found.{places_of}
use Rattle.flow_graph.specs.Taken.{is_taken}
use Rattle.print_graphs.proofs.onward.nexts_at.Given as goal

-- of the locations so far those to which a step may go on
abbrev pub invariant-loop-next : goal.invariant-loop-next
invariant-loop-next l =
    places_of l.nexts
    ≡ with_new [] (filter (is_taken l.flow.notes.now (nodes_of l.flow) l.location.number)
    (take l.next-index (map (λ location. location.number) l.next-items)))
