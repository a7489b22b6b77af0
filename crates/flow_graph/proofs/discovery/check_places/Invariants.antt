use Rattle.std.proofs.Common.{◌≡◌, ℕ, ◌<◌, Some}
use Rattle.std.specs.Prelude.{slice_get}
use Rattle.read_decks.specs.InDeck.{loads_in}
use Rattle.flow_graph.specs.Accepted.{IsGood}
use Rattle.flow_graph.proofs.Founds.{numbers}
use Rattle.flow_graph.proofs.discovery.check_places.Given as goal

-- the locations so far are good
abbrev pub invariant-loop-location : goal.invariant-loop-location
invariant-loop-location l = (k place : ℕ) → k < l.location-index → slice_get (numbers l.locations) k ≡ Some place
    → IsGood (loads_in l.deck) l.notes place
