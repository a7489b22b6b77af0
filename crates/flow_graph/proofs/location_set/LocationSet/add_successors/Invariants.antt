use Rattle.std.proofs.Common.{◌≡◌}
use Rattle.std.specs.Prelude.{flat_map}
use Rattle.read_decks.specs.InDeck.{loads_in}
use Rattle.base_notes.specs.Allowed.{matching}
use Rattle.flow_graph.specs.Executed.{with_new, successors}
use Rattle.flow_graph.specs.Found.{places_of, targets_by}
use Rattle.flow_graph.specs.Patterns.{patterns_left}
use Rattle.flow_graph.proofs.location_set.LocationSet.add_successors.Given as goal

-- what is there, and what the patterns that are left will add, is what all of them add
abbrev pub invariant-loop-pattern : goal.invariant-loop-pattern
invariant-loop-pattern l =
    with_new (places_of l.self) (targets_by l.notes (flat_map matching (patterns_left l.pattern-iterator)))
    ≡ with_new (places_of l.fn.self) (successors (loads_in l.deck) l.notes l.fn.location.number)
