-- Definitions evaluated, with answers that were worked out apart from them.
use Rattle.std.proofs.Common.{◌≡◌, false, [], ◌∷◌, refl, arith}
use Rattle.std.specs.Prelude.{codes}
use Rattle.base_words.specs.Word.{word}
use Rattle.read_decks.specs.DeckText.{comment, start, card, IsLine, given_from, starts, cards_from}
use Rattle.read_decks.specs.Lines.{lines_of}

-- the lines of a deck whose last line has no line feed, and of one that has an empty line
two_lines : lines_of (codes "0100 +6901030106\nSTART 0100") ≡ codes "0100 +6901030106" ∷ codes "START 0100" ∷ []
two_lines = refl

line_feeds : lines_of (10 ∷ 42 ∷ 10 ∷ []) ≡ [] ∷ (42 ∷ []) ∷ []
line_feeds = refl

-- what they say, and what they give
a_card : IsLine (codes "0100 +6901030106") (card 100 (word false 6901030106 ∷ []))
a_card = (omega arith, omega arith, omega arith, refl)

a_start : IsLine (codes "START 0100") (start 100)
a_start = (omega arith, refl)

the_image : given_from 1 (card 100 (word false 6901030106 ∷ []) ∷ start 100 ∷ [])
    ≡ record { location = 100; word = word false 6901030106; line = 1 } ∷ []
the_image = refl

the_start : starts (card 100 (word false 6901030106 ∷ []) ∷ start 100 ∷ []) ≡ 100 ∷ []
the_start = refl

the_cards : cards_from 1 (comment ∷ card 100 (word false 6901030106 ∷ []) ∷ start 100 ∷ []) ≡ 2 ∷ []
the_cards = refl
