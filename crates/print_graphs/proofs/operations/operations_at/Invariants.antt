use Rattle.std.proofs.Common.{◌≡◌}
use Rattle.std.specs.Prelude.{flat_map}
use Rattle.read_decks.specs.InDeck.{loads_in}
use Rattle.base_notes.specs.Allowed.{matching}
use Rattle.flow_graph.specs.Executed.{with_new}
use Rattle.flow_graph.specs.Patterns.{patterns_left}
use Rattle.print_graphs.specs.Graph as said
use Rattle.print_graphs.proofs.PatternOperations.{op_alone}
use Rattle.print_graphs.proofs.operations.operations_at.Given as goal

-- what is there, and what the patterns that are left will add, is what all of them add
abbrev pub invariant-loop-pattern : goal.invariant-loop-pattern
invariant-loop-pattern l =
    with_new l.operations.items (flat_map op_alone (flat_map matching (patterns_left l.pattern-iterator)))
    ≡ said.operations (loads_in l.deck) l.notes l.fn.location.number
