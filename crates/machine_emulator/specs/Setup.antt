-- What a machine is set up with beside its deck.
use Rattle.std.specs.Prelude.{◌≢◌, ℕ, ◌^◌, ◌<◌, ◌==◌, ℤ, unsigned_abs, List, Option, map, find}
use Rattle.std.specs.Prelude.{is_some}
use Rattle.std.specs.List.{All, AllPairs}
use Rattle.std.specs.Option.{option_map}
use Rattle.base_words.specs.declared.location.Location.{Location}
use Rattle.base_words.specs.declared.word.Word.{Word}

-- each word is for a location of its own on the drum
pub record HaveOwnLocations (words : List (Location × Word)) : Type 0 where
  pub on_drum : All (λ given. given.0.number < 2000) words
  pub once : AllPairs (λ given later. given.0.number ≢ later.0.number) words

-- the angle is one of the drum's, the accumulator has twenty digits, each word a location of its
-- own
pub record IsSetup (angle : ℕ) (accumulator : ℤ) (words : List (Location × Word)) : Type 0 where
  pub angle_on_drum : angle < 50
  pub twenty : unsigned_abs accumulator < 10 ^ 20
  pub own_locations : HaveOwnLocations words

-- the word that is given to the location of this number
abbrev pub given_to : ℕ → List (Location × Word) → Option Word
given_to number words =
    option_map (λ given. given.1) (find (λ given. given.0.number == number) words)

-- the first location, in their order, that is loaded
abbrev pub first_loaded : (ℕ → Option Word) → List (Location × Word) → Option Location
first_loaded loads words =
    find (λ location. is_some (loads location.number)) (map (λ given. given.0) words)
