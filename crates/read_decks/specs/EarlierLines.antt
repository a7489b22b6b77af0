-- The earlier line of a deck that explains a fault.
use Rattle.std.specs.Prelude.{◌≡◌, ℕ, ◌+◌, List, [], ◌∷◌, length, Option, Some, None}
use Rattle.read_decks.specs.declared.deck.fault.DeckFault.{DeckFault}
use Rattle.read_decks.specs.declared.deck.fault.DeckFault.TheVariants.{Read, Memory, Card, Twice}
use Rattle.read_decks.specs.declared.deck.fault.DeckFault.TheVariants.{NoStart, TwoStarts, PastDrum}
use Rattle.read_decks.specs.declared.deck.fault.DeckFault.TheVariants.{TooLong}
use Rattle.read_decks.specs.declared.deck.line_fault.LineFault.{LineFault}
use Rattle.read_decks.specs.DeckText.{Line, comment, start, card, card_of, IsFaultOfLine}

-- the number of the first line that is a start, the first line having this number
abbrev pub first_start : ℕ → List Line → Option ℕ
first_start number [] = None
first_start number (comment ∷ lines) = first_start (number + 1) lines
first_start number (start n ∷ lines) = Some number
first_start number (card n words ∷ lines) = first_start (number + 1) lines

-- The earlier line that a fault points at, behind these lines: the one that gives the location, or
-- the first start.
abbrev pub earlier_for : List Line → DeckFault → Option ℕ
earlier_for before (Twice location) = card_of before location.number
earlier_for before (TwoStarts n) = first_start 1 before
earlier_for before (Card n) = None
earlier_for before (PastDrum n) = None
earlier_for before Read = None
earlier_for before Memory = None
earlier_for before NoStart = None
earlier_for before TooLong = None

-- behind these lines, the next one, of this text, has this fault
pub record HasLineFault (before : List Line) (text : List ℕ) (found : LineFault DeckFault) :
    Type 0 where
  pub is : IsFaultOfLine before (length before + 1) text found.fault
  pub earlier : found.earlier ≡ earlier_for before found.fault
