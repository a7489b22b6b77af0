-- How the lines of inputs are read.
use Rattle.std.proofs.Common.{ℕ, ◌<◌, List, [], length, Option, Some, None}
use Rattle.std.specs.Prelude.{IfSome}
use Rattle.read_decks.specs.Lines.{lines_of}
use Rattle.read_decks.specs.Taking.{GoesFrom}
use Rattle.read_decks.proofs.LineLemmas.{longer_by_bytes}
use Rattle.read_decks.proofs.Passing.{whole_of, first_met}
use Rattle.read_replays.specs.declared.fault.InputFault.{InputFault}
use Rattle.read_replays.specs.declared.fault.InputFault.TheVariants as faults
use Rattle.read_replays.specs.declared.stating.Stating.{Stating}
use Rattle.read_replays.specs.InputsOfLines.{HoldsLines, input_rules}
use Rattle.read_replays.specs.InputsText.{Line, IsTooLong, AreInputs, IsFirstFault, IsFaultOfLine, IsRefused}

pub first_refused : (text : List ℕ) (fault : InputFault) → (IsTooLong text → ⊥) → IsFirstFault text fault
    → IsRefused text fault
first_refused text faults.Read short p = absurd p.first
first_refused text faults.Memory short p = absurd p.first
first_refused text faults.TooLong short p = absurd p.first
first_refused text (faults.Line n) short p = (short, p)
first_refused text (faults.PastDrum n) short p = (short, p)
first_refused text (faults.Repeated n) short p = (short, p)

pub refused_met : (text : List ℕ) (left : List (List ℕ)) (stating : Stating) (count : ℕ) (fault : InputFault)
    → ¬ IsTooLong text → GoesFrom input_rules stating count (lines_of text) left [] (Some fault)
    → IsRefused text fault
refused_met text left stating count fault short (after, line, passed, counted, has, holds) =
    first_refused text fault short
    (first_met input_rules IsFaultOfLine text line left after fault tt passed has)

-- all lines of a text have been taken
pub all_taken : (text : List ℕ) (left : List (List ℕ)) (stating : Stating) (count : ℕ) → ¬ IsTooLong text
    → GoesFrom input_rules stating count (lines_of text) left [] None
    → (lines : List Line) × AreInputs text lines × HoldsLines stating lines
all_taken text left stating count short (after, passed, holds) =
    let whole = whole_of input_rules (lines_of text) after tt passed in
    (after, record { short = short; said = whole.said; sound = whole.sound }, holds)

pub left_too_long : (left : Option (List ℕ)) → IfSome left (λ bytes. 804000 < length bytes) → IfSome left IsTooLong
left_too_long None more = tt
left_too_long (Some bytes) more = longer_by_bytes 4000 200 bytes more
