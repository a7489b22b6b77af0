use Rattle.std.proofs.Common.{ℕ, suc, ◌-◌, ◌<◌, ◌≤◌}
use Rattle.base_words.specs.Instruction.{instruction}
use Rattle.read_decks.specs.InDeck.{loads_in, start_in}
use Rattle.flow_graph.specs.Flow.{deck_of, notes_of}
use Rattle.flow_graph.specs.Accepted as said
use Rattle.flow_acceptance.proofs.altering.first_altered_in.Given as goal

-- the instructions with a lower data address alter nothing
abbrev pub invariant-loop-d : goal.invariant-loop-d
invariant-loop-d l = record {
  from : l.pattern.d_from ≤ l.d;
  none : (k : ℕ) → l.pattern.d_from ≤ k → k < l.d
      → ¬ said.Alters (loads_in (deck_of l.flow)) (notes_of l.flow) (start_in (deck_of l.flow))
      (instruction l.pattern.op k l.pattern.i);
}

abbrev pub decreases-loop-d : goal.decreases-loop-d
decreases-loop-d l = suc l.pattern.d_to - l.d
