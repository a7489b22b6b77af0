-- The first of the faults of inputs is the one that a reader refuses them for.
use Rattle.std.proofs.Common.{◌≡◌, ℕ, List, [], ◌∷◌, subst, inl, inr}
use Rattle.read_replays.specs.declared.fault.InputFault.{InputFault}
use Rattle.read_replays.specs.declared.fault.InputFault.TheVariants.{TooLong}
use Rattle.read_replays.specs.InputsText.{Line, comment, IsLine, AreSound, IsFaultOfLine, IsRefused, AreInputs}
use Rattle.read_replays.proofs.Progress.{first_refused}
use Rattle.read_faults.specs.InputFaults.{IsPlaced, AreInputFaults}
use Rattle.read_faults.specs.declared.placed_fault.PlacedFault.{PlacedFault}
use Rattle.read_faults.proofs.ByLine.{past_is_long, first_of_lines, none_of_lines}
use Rattle.read_faults.proofs.OnePlaced.{inputs_one}

-- the first fault that is found is the one that a reader refuses inputs for
pub first_input_refused : (text : List ℕ) (placed : PlacedFault InputFault) (others : List (PlacedFault InputFault))
    → AreInputFaults text (placed ∷ others) → IsRefused text placed.fault
first_input_refused text placed others (inl (number, line, past, are)) =
    let same : TooLong ≡ placed.fault = cc (are) in
    subst (IsRefused text) same (past_is_long 4000 200 text number line past)
first_input_refused text placed others (inr (short, have)) =
    first_refused text placed.fault short
    (first_of_lines comment IsLine AreSound IsFaultOfLine IsPlaced inputs_one text placed others have)

-- and only a text that is inputs has none
pub none_is_inputs : (text : List ℕ) → AreInputFaults text [] → (lines : List Line) × AreInputs text lines
none_is_inputs text (inl (number, line, past, are)) = cc (are)
none_is_inputs text (inr (short, have)) =
    let all = none_of_lines comment IsLine AreSound IsPlaced inputs_one.nothing_sound text have in
    (all.lines, record { short = short; said = all.said; sound = all.sound })
