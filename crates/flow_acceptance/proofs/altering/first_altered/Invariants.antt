use Rattle.std.proofs.Common.{◌≡◌, ◌++◌}
use Rattle.std.specs.Prelude.{flat_map}
use Rattle.read_decks.specs.InDeck.{loads_in, start_in}
use Rattle.base_notes.specs.Allowed.{allowed, matching}
use Rattle.flow_graph.specs.Flow.{deck_of, notes_of}
use Rattle.flow_graph.specs.Patterns.{patterns_left}
use Rattle.flow_acceptance.specs.Altering.{NoneAlters}
use Rattle.flow_acceptance.proofs.altering.first_altered.Given as goal

-- the instructions of the patterns so far alter nothing, and the others are left
abbrev pub invariant-loop-pattern : goal.invariant-loop-pattern
invariant-loop-pattern l = record {
  split : flat_map matching (l.yielded ++ patterns_left l.pattern-iterator)
      ≡ allowed (loads_in (deck_of l.flow)) (notes_of l.flow) l.fn.location.number;
  none : NoneAlters (loads_in (deck_of l.flow)) (notes_of l.flow) (start_in (deck_of l.flow))
      (flat_map matching l.yielded);
}
