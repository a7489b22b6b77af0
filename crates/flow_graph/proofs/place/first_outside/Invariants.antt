use Rattle.std.proofs.Common.{◌≡◌, ◌++◌, Contains}
use Rattle.std.specs.Prelude.{flat_map}
use Rattle.base_words.specs.declared.instruction.Instruction.{Instruction}
use Rattle.read_decks.specs.InDeck.{loads_in}
use Rattle.base_notes.specs.Allowed.{allowed, matching}
use Rattle.flow_graph.specs.Patterns.{patterns_left}
use Rattle.flow_graph.specs.Accepted.{IsOutside}
use Rattle.flow_graph.proofs.place.first_outside.Given as goal

-- the instructions of the patterns so far are in the profile, and the others are left
abbrev pub invariant-loop-pattern : goal.invariant-loop-pattern
invariant-loop-pattern l = record {
  split : flat_map matching (l.yielded ++ patterns_left l.pattern-iterator)
      ≡ allowed (loads_in l.deck) l.notes l.fn.location.number;
  inside : (other : Instruction) → Contains (flat_map matching l.yielded) other → ¬ IsOutside other;
}
