-- All faults of a text of inputs, with their places.
use Rattle.std.specs.Prelude.{◌≡◌, ℕ, ◌+◌, ◌<◌, ◌⊎◌, List, [], ◌∷◌, length, slice_get}
use Rattle.std.specs.Prelude.{Option, Some, None}
use Rattle.read_decks.specs.Lines.{lines_of}
use Rattle.read_decks.specs.Taking.{HaveFaults}
use Rattle.read_replays.specs.declared.fault.InputFault.{InputFault}
use Rattle.read_replays.specs.declared.fault.InputFault.TheVariants as faults
use Rattle.read_replays.specs.InputsText.{Line, comment, IsLine, AreSound, Repeats}
use Rattle.read_replays.specs.InputsText.{IsFaultOfLine, IsTooLong}
use Rattle.read_faults.specs.declared.placed_fault.PlacedFault.{PlacedFault}
use Rattle.read_faults.specs.declared.slip.Slip.{Slip}
use Rattle.read_faults.specs.ByLine.{past_limit, IsFirstPast}
use Rattle.read_faults.specs.Slip.{slip_in}

-- At this index stands the first of some lines that this line says again.
pub record IsFirstRepeated (before : List Line) (line : Line) (index : ℕ) : Type 0 where
  pub earlier : Line
  pub is : slice_get before index ≡ Some earlier
  pub repeated : Repeats (earlier ∷ []) line
  pub first : (k : ℕ) (other : Line) → k < index → slice_get before k ≡ Some other
      → ¬ Repeats (other ∷ []) line

-- The earlier line that a fault points at, behind these lines: the first that the line says again.
abbrev pub IsEarlier : List Line → List ℕ → InputFault → Option ℕ → Type 0
IsEarlier before text (faults.Repeated n) earlier =
    (line : Line) × IsLine text line
    × ((index : ℕ) × IsFirstRepeated before line index × (earlier ≡ Some (index + 1)))
IsEarlier before text (faults.Line n) earlier = earlier ≡ None
IsEarlier before text (faults.PastDrum n) earlier = earlier ≡ None
IsEarlier before text faults.Read earlier = earlier ≡ None
IsEarlier before text faults.Memory earlier = earlier ≡ None
IsEarlier before text faults.TooLong earlier = earlier ≡ None

-- What was done to a line that has this fault: looked for only where it is no line of inputs.
abbrev pub slip_for : List ℕ → InputFault → Option Slip
slip_for text (faults.Line n) = slip_in text
slip_for text (faults.PastDrum n) = None
slip_for text (faults.Repeated n) = None
slip_for text faults.Read = None
slip_for text faults.Memory = None
slip_for text faults.TooLong = None

-- Behind these lines, the next one, of this text, has this fault.
pub record IsPlaced (before : List Line) (text : List ℕ)
    (placed : PlacedFault InputFault) : Type 0 where
  pub is : IsFaultOfLine before (length before + 1) text placed.fault
  pub line : placed.line ≡ Some (length before + 1)
  pub earlier : IsEarlier before text placed.fault placed.earlier
  pub slip : placed.slip ≡ slip_for text placed.fault

-- the faults of lines behind others
abbrev pub HaveInputFaults : List Line → List (List ℕ) → List (PlacedFault InputFault) → Type 0
HaveInputFaults before texts faults =
    HaveFaults comment IsLine AreSound IsPlaced before texts faults

-- All faults of a text of inputs. A text that is too long has that one fault, at the first line
-- that is past a limit.
abbrev pub AreInputFaults : List ℕ → List (PlacedFault InputFault) → Type 0
AreInputFaults text placed =
    ((number : ℕ) × (line : List ℕ) × IsFirstPast 4000 200 text number line
    × (placed ≡ past_limit faults.TooLong number line ∷ []))
    ⊎ (¬ IsTooLong text × HaveInputFaults [] (lines_of text) placed)
