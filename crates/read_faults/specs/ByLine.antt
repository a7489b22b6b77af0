-- Where a fault of a text stands, of a deck or of inputs.
use Rattle.std.specs.Prelude.{◌≡◌, ℕ, ◌+◌, ◌<◌, ◌≤◌, ◌⊎◌, List, ◌∷◌, ◌++◌, length, Any}
use Rattle.std.specs.Prelude.{Option, Some, None}
use Rattle.read_decks.specs.Lines.{lines_of}
use Rattle.read_faults.specs.declared.placed_fault.PlacedFault.{PlacedFault}
use Rattle.read_faults.specs.Slip.{slip_in_long}

-- a fault that no earlier line explains
abbrev pub alone : {Fault : Type 0} → Fault → Option ℕ → PlacedFault Fault
alone fault line = record { fault = fault; line = line; earlier = None; slip = None }

-- the fault of a text whose line of this number, which is this one, is past a limit
abbrev pub past_limit : {Fault : Type 0} → Fault → ℕ → List ℕ → PlacedFault Fault
past_limit fault number line =
    record { fault = fault; line = Some number; earlier = None; slip = slip_in_long line }

-- This is the number, from 1, of the first line that is past the last one that may be, or longer
-- than a line may be, and this is that line.
pub record IsFirstPast (most longest : ℕ) (text : List ℕ) (number : ℕ)
    (line : List ℕ) : Type 0 where
  pub texts : List (List ℕ)
  pub others : List (List ℕ)
  pub split : lines_of text ≡ texts ++ line ∷ others
  pub counted : number ≡ length texts + 1
  pub few : length texts ≤ most
  pub short : ¬ Any (λ earlier. longest < length earlier) texts
  pub past : (most < number) ⊎ (longest < length line)
