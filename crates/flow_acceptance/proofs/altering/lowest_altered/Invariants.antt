use Rattle.std.proofs.Common.{ℕ, ◌<◌, ◌≤◌}
use Rattle.read_decks.specs.InDeck.{loads_in, start_in}
use Rattle.flow_graph.specs.Flow.{deck_of, notes_of}
use Rattle.flow_graph.specs.Accepted.{IsFixed}
use Rattle.flow_acceptance.proofs.altering.lowest_altered.Given as goal

-- none of the words so far is fixed
abbrev pub invariant-loop-number : goal.invariant-loop-number
invariant-loop-number l =
    (k : ℕ) → l.initial.number ≤ k → k < l.number
    → ¬ IsFixed (loads_in (deck_of l.flow)) (notes_of l.flow) (start_in (deck_of l.flow)) k
