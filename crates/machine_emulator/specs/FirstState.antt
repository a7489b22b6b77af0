-- What a machine is at time 0.
use Rattle.std.specs.Prelude.{◌≡◌, ℕ, ◌<◌, false, List, length, slice_get, Option, Some, None}
use Rattle.std.specs.Prelude.{unwrap_or}
use Rattle.base_words.specs.declared.location.Location.{Location}
use Rattle.base_words.specs.declared.word.Word.{Word}
use Rattle.base_words.specs.Word.{word}
use Rattle.machine_steps.specs.Step.{State}
use Rattle.machine_emulator.specs.declared.setup.Setup.{Setup}
use Rattle.machine_emulator.specs.Setup.{given_to}

-- the word at a drum location: the deck's, elsewhere the setup's, else +0
abbrev pub first_word : (ℕ → Option Word) → List (Location × Word) → ℕ → Word
first_word loads words location =
    unwrap_or (loads location) (unwrap_or (given_to location words) (word false 0))

-- the drum holds the first word at each of its 2000 locations
pub record IsFirstDrum (loads : ℕ → Option Word) (words : List (Location × Word))
    (drum : List Word) : Type 0 where
  pub whole : length drum ≡ 2000
  pub first : (location : ℕ) → location < 2000
      → slice_get drum location ≡ Some (first_word loads words location)

-- a machine of this deck and this setup, at time 0
pub record IsSetUp (loads : ℕ → Option Word) (start_location : ℕ) (setup : Setup)
    (s : State) : Type 0 where
  pub at_once : s.time ≡ 0
  pub seeks : s.sought ≡ start_location
  pub angle : s.first_angle ≡ setup.angle
  pub drum : IsFirstDrum loads setup.words.items s.contents.drum
  pub switches : s.contents.switches ≡ setup.switches
  pub distributor : s.contents.distributor ≡ setup.distributor
  pub accumulator : s.contents.accumulator ≡ setup.accumulator
  pub remainder : s.contents.remainder ≡ None
  pub latch : s.contents.latch ≡ setup.latch
  pub programmed : s.contents.programmed_stops ≡ setup.programmed
  pub on_overflow : s.contents.overflow_stops ≡ setup.on_overflow
