-- Which lines a deck holds.
use Rattle.std.specs.Prelude.{List, Some}
use Rattle.read_decks.specs.declared.deck.Deck.{Deck}
use Rattle.read_decks.specs.DeckText.{Line}
use Rattle.read_decks.specs.ImageOfLines.{Holds}

-- A deck is the deck of these lines.
abbrev pub IsDeckOf : Deck → List Line → Type 0
IsDeckOf deck lines = Holds deck.image.items deck.cards.items (Some deck.start) lines
