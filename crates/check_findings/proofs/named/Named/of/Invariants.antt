use Rattle.std.proofs.Common.{ℕ, Contains, take}
use Rattle.std.specs.Prelude.{flat_map, ◌↔◌}
use Rattle.read_decks.specs.InDeck.{loads_in}
use Rattle.flow_graph.specs.Flow.{executed_in}
use Rattle.check_findings.specs.Idle.{named_at}
use Rattle.check_findings.specs.NamedOf.{IsFlagged}
use Rattle.check_findings.proofs.named.Named.of.Given as goal

-- the words that the instructions of the locations so far name are set
abbrev pub invariant-loop-location : goal.invariant-loop-location
invariant-loop-location l =
    (word : ℕ) → IsFlagged l.named word ↔ Contains (flat_map (named_at (loads_in l.flow.deck.now) l.flow.notes.now)
    (take l.location-index (executed_in l.flow))) word
