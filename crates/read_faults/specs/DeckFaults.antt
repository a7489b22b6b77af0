-- All faults of a deck's text, with their places.
use Rattle.std.specs.Prelude.{◌≡◌, ℕ, ◌+◌, ◌⊎◌, List, [], ◌∷◌, ◌++◌, length, Any, Option}
use Rattle.std.specs.Prelude.{Some, None}
use Rattle.read_decks.specs.declared.deck.fault.DeckFault.{DeckFault}
use Rattle.read_decks.specs.declared.deck.fault.DeckFault.TheVariants.{Read, Memory, Card, Twice}
use Rattle.read_decks.specs.declared.deck.fault.DeckFault.TheVariants.{NoStart, TwoStarts, PastDrum}
use Rattle.read_decks.specs.declared.deck.fault.DeckFault.TheVariants.{TooLong}
use Rattle.read_decks.specs.DeckText.{Line, comment, start, IsLine, AreSound}
use Rattle.read_decks.specs.DeckText.{IsFaultOfLine, IsTooLong}
use Rattle.read_decks.specs.EarlierLines.{earlier_for}
use Rattle.read_decks.specs.Lines.{lines_of}
use Rattle.read_decks.specs.Taking.{HaveFaults}
use Rattle.read_faults.specs.declared.placed_fault.PlacedFault.{PlacedFault}
use Rattle.read_faults.specs.declared.slip.Slip.{Slip}
use Rattle.read_faults.specs.ByLine.{alone, past_limit, IsFirstPast}
use Rattle.read_faults.specs.Slip.{slip_in}

-- What was done to a line that has this fault: looked for only where it is no line of a deck.
abbrev pub slip_for : List ℕ → DeckFault → Option Slip
slip_for text (Card n) = slip_in text
slip_for text (Twice location) = None
slip_for text (TwoStarts n) = None
slip_for text (PastDrum n) = None
slip_for text Read = None
slip_for text Memory = None
slip_for text NoStart = None
slip_for text TooLong = None

-- Behind these lines, the next one, of this text, has this fault.
pub record IsPlaced (before : List Line) (text : List ℕ)
    (placed : PlacedFault DeckFault) : Type 0 where
  pub is : IsFaultOfLine before (length before + 1) text placed.fault
  pub line : placed.line ≡ Some (length before + 1)
  pub earlier : placed.earlier ≡ earlier_for before placed.fault
  pub slip : placed.slip ≡ slip_for text placed.fault

-- the faults of lines behind others
abbrev pub HaveDeckFaults : List Line → List (List ℕ) → List (PlacedFault DeckFault) → Type 0
HaveDeckFaults before texts faults =
    HaveFaults comment IsLine AreSound IsPlaced before texts faults

-- the line says START with a location, on the drum or not
abbrev pub SaysStart : List ℕ → Type 0
SaysStart line = (n : ℕ) × IsLine line (start n)

-- some line does
abbrev pub HasStart : List ℕ → Type 0
HasStart text = Any SaysStart (lines_of text)

-- The faults of a text that isn't too long: those of its lines, and behind them NoStart where no
-- line says START.
abbrev pub AreOfShort : List ℕ → List (PlacedFault DeckFault) → Type 0
AreOfShort text faults =
    (HasStart text × HaveDeckFaults [] (lines_of text) faults)
    ⊎ (¬ HasStart text × ((placed : List (PlacedFault DeckFault))
    × HaveDeckFaults [] (lines_of text) placed
    × (faults ≡ placed ++ alone NoStart None ∷ [])))

-- All faults of a deck's text. A text that is too long has that one fault, at the first line that
-- is past a limit.
abbrev pub AreDeckFaults : List ℕ → List (PlacedFault DeckFault) → Type 0
AreDeckFaults text faults =
    ((number : ℕ) × (line : List ℕ) × IsFirstPast 4000 100 text number line
    × (faults ≡ past_limit TooLong number line ∷ []))
    ⊎ (¬ IsTooLong text × AreOfShort text faults)
