use Rattle.std.proofs.Common.{◌≡◌, map, take}
use Rattle.std.specs.Prelude.{filter, is_some}
use Rattle.read_decks.specs.InDeck.{loads_in}
use Rattle.read_faults.proofs.loaded.loaded_by.Given as goal

-- the locations so far
abbrev pub invariant-loop-location : goal.invariant-loop-location
invariant-loop-location l =
    map (λ location. location.number) l.loaded.items
    ≡ filter (λ number. is_some (loads_in l.deck number)) (map (λ one. one.0.number) (take l.location-index l.given))
