-- What a deck loads, from which cards, and where it starts, as it is held. (It is what its lines
-- say: a law.)
use Rattle.std.specs.Prelude.{ℕ, List, slice_get, Option, Some, None}
use Rattle.std.specs.Option.{option_map}
use Rattle.read_decks.specs.declared.deck.Given.{Given}
use Rattle.read_decks.specs.declared.deck.Deck.{Deck}
use Rattle.base_words.specs.declared.word.Word.{Word}

-- what is given at an index of the image
abbrev pub found_in : Option (Option Given) → Option Given
found_in None = None
found_in (Some one) = one

-- what the deck gives a location
abbrev pub given_in : Deck → ℕ → Option Given
given_in deck location = found_in (slice_get deck.image.items location)

-- the word that the deck loads into a location
abbrev pub loads_in : Deck → ℕ → Option Word
loads_in deck location = option_map (λ one. one.word) (given_in deck location)

-- the location of the program's first instruction
abbrev pub start_in : Deck → ℕ
start_in deck = deck.start.number

-- the line of the card that loads a location
abbrev pub card_in : Deck → ℕ → Option ℕ
card_in deck location = option_map (λ one. one.line) (given_in deck location)

-- the lines of the cards, in order
abbrev pub cards_in : Deck → List ℕ
cards_in deck = deck.cards.items
