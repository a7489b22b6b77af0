use Rattle.std.proofs.Common.{◌≡◌}
use Rattle.std.specs.Prelude.{flat_map}
use Rattle.std.specs.List.{list_any}
use Rattle.read_decks.specs.InDeck.{loads_in}
use Rattle.base_notes.specs.Allowed.{matching}
use Rattle.flow_graph.specs.Patterns.{patterns_left}
use Rattle.print_graphs.specs.Graph as said
use Rattle.print_graphs.specs.GraphOf.{has_stop_by}
use Rattle.print_graphs.proofs.stops.may_stop.Given as goal

-- none of the patterns so far has an instruction that may stop the run
abbrev pub invariant-loop-pattern : goal.invariant-loop-pattern
invariant-loop-pattern l =
    list_any (has_stop_by l.notes) (flat_map matching (patterns_left l.pattern-iterator))
    ≡ said.may_stop (loads_in l.deck) l.notes l.fn.location.number
