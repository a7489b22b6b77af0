use Rattle.std.proofs.Common.{◌≡◌}
use Rattle.std.specs.Prelude.{flat_map}
use Rattle.read_decks.specs.InDeck.{loads_in}
use Rattle.base_notes.specs.Allowed.{matching}
use Rattle.flow_graph.specs.Executed.{with_new}
use Rattle.flow_graph.specs.Flow.{executed_in}
use Rattle.flow_graph.specs.Found.{places_of}
use Rattle.flow_graph.specs.Patterns.{patterns_left}
use Rattle.print_graphs.specs.Graph as said
use Rattle.print_graphs.specs.Graph.{executed_writes}
use Rattle.print_graphs.proofs.written.written_at.Given as goal

-- what is there, and what the patterns that are left will add, is what all of them add
abbrev pub invariant-loop-pattern : goal.invariant-loop-pattern
invariant-loop-pattern l =
    with_new (places_of l.written) (flat_map (executed_writes (executed_in l.flow))
    (flat_map matching (patterns_left l.pattern-iterator)))
    ≡ said.written (loads_in l.flow.deck.now) l.flow.notes.now (executed_in l.flow) l.fn.location.number
