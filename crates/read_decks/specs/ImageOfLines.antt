-- Which lines an image, the lines of cards and a start are of.
use Rattle.std.specs.Prelude.{◌≡◌, ℕ, ◌<◌, ◌≤◌, List, [], ◌∷◌, length, slice_get, Option, Some}
use Rattle.std.specs.Prelude.{None}
use Rattle.read_decks.specs.declared.deck.Given as held
use Rattle.base_words.specs.declared.location.Location.{Location}
use Rattle.read_decks.specs.DeckText.{Line, Given, given_from, given_at, cards_from, starts}
use Rattle.read_decks.specs.DeckText.{AreSound, Say}

-- what is given to a location, as a deck holds it
abbrev pub seen : Option Given → Option held.Given
seen None = None
seen (Some one) = Some (record { word = one.word; line = one.line })

abbrev pub started : Option Location → List ℕ
started None = []
started (Some location) = location.number ∷ []

-- The image, the cards and the start are those of sound lines.
pub record Holds (image : List (Option held.Given)) (cards : List ℕ) (start : Option Location)
    (lines : List Line) : Type 0 where
  pub words : (n : ℕ) → n < 2000 → slice_get image n ≡ Some (seen (given_at (given_from 1 lines) n))
  pub numbers : cards ≡ cards_from 1 lines
  pub begins : starts lines ≡ started start
  pub sound : AreSound lines

-- The image, the cards and the start are those of some lines that texts say, 4000 at most.
pub record AreOfLines (image : List (Option held.Given)) (cards : List ℕ) (start : Location) :
    Type 0 where
  pub texts : List (List ℕ)
  pub lines : List Line
  pub said : Say texts lines
  pub holds : Holds image cards (Some start) lines
  pub few : length lines ≤ 4000
