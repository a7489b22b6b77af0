use Rattle.std.proofs.Common.{ℕ, take, Contains}
use Rattle.read_decks.specs.InDeck.{loads_in, start_in}
use Rattle.flow_graph.specs.Flow.{deck_of, executed_in, notes_of}
use Rattle.flow_acceptance.specs.Altering.{AltersNone}
use Rattle.flow_acceptance.proofs.altering.check_unaltered.Given as goal

-- the instructions of the locations so far alter nothing
abbrev pub invariant-loop-writer : goal.invariant-loop-writer
invariant-loop-writer l = (place : ℕ) → Contains (take l.writer-index (executed_in l.flow)) place
    → AltersNone (loads_in (deck_of l.flow)) (notes_of l.flow) (start_in (deck_of l.flow)) place
