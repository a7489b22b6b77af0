-- Which entries of a table the steps of a run arrive under.
use Rattle.std.specs.Prelude.{◌≡◌, ℕ, ◌≤◌, List, [], ◌∷◌, Contains}
use Rattle.base_notes.specs.declared.notes.mark.Mark.{Mark}
use Rattle.base_notes.specs.Allowed.{Notes}
use Rattle.machine_steps.specs.Keeps.{counts_after}
use Rattle.machine_steps.specs.Run.{Stride}
use Rattle.machine_steps.specs.Step.{State, Stepped, on, stopped}
use Rattle.bound_scan.specs.Table.{number_of, Row}

-- an entry of this place and counts has this time or a greater one
abbrev pub IsUnder : List Mark → List Row → ℕ → List ℕ → ℕ → Type 0
IsUnder marks rows place counts time =
    (row : Row) × Contains rows row × (row.place ≡ place) × (row.counts ≡ number_of marks counts)
    × (time ≤ row.time)

-- a step that goes on leaves a state with this property
abbrev pub IfOn : Stepped → (State → Type 0) → Type 0
IfOn (on s) Right = Right s
IfOn (stopped held because moment) Right = Unit {0}

-- Each of these steps that goes on, with these counts of the marks before the first, arrives under
-- an entry: at the location that it goes on to, with the counts and the word times used then.
abbrev pub ArriveUnder : Notes → List Row → List ℕ → List Stride → Type 0
ArriveUnder notes rows counts [] = Unit {0}
ArriveUnder notes rows counts (stride ∷ steps) =
    IfOn stride.outcome (λ s.
    IsUnder notes.marks rows s.sought (counts_after notes counts stride) s.time)
    × ArriveUnder notes rows (counts_after notes counts stride) steps
