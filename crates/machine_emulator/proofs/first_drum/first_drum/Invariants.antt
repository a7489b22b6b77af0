use Rattle.std.proofs.Common.{◌≡◌, ℕ, ◌<◌, Some, vec_len}
use Rattle.std.specs.Prelude.{slice_get}
use Rattle.read_decks.specs.InDeck.{loads_in}
use Rattle.machine_emulator.specs.FirstState.{first_word}
use Rattle.machine_emulator.proofs.first_drum.first_drum.Given as goal

-- the locations so far have their first words
abbrev pub invariant-loop-number : goal.invariant-loop-number
invariant-loop-number l =
    (vec_len l.drum ≡ l.number)
    × ((k : ℕ) → k < l.number → slice_get l.drum.items k ≡ Some (first_word (loads_in l.deck) l.setup.words.items k))
