-- Calls of subroutines: a step along a call's edge opens its exit with its way back, and a step
-- from an exit that goes on goes to the way back that is open, and closes it.
use Rattle.std.specs.Prelude.{◌≡◌, ℕ, ◌==◌, ◌&&◌, Bool, if◌then◌else◌, List, [], ◌∷◌, map, Option}
use Rattle.std.specs.Prelude.{Some, None}
use Rattle.base_notes.specs.declared.notes.call.Call.{Call}
use Rattle.base_notes.specs.EdgeOf.{edge_of}
use Rattle.base_notes.specs.Edges.{leads}
use Rattle.machine_steps.specs.Since.{Edge}

-- the call opens this exit along this edge
abbrev pub is_opening : Edge → ℕ → Call → Bool
is_opening edge exit call =
    leads edge.from edge.onto (edge_of call.edge) && call.exit.number == exit

-- the way back with which a step along an edge opens an exit, if it does: the first call's that
-- opens it
abbrev pub opened_by : List Call → Edge → ℕ → Option ℕ
opened_by [] edge exit = None
opened_by (call ∷ calls) edge exit =
    if is_opening edge exit call then Some call.back.number else opened_by calls edge exit

-- the way back that is open at an exit behind a step, where this one was open before it: the step
-- closes the exit that it stands at, and then opens those of its calls
abbrev pub way_behind : List Call → Edge → ℕ → Option ℕ → Option ℕ
way_behind calls edge exit way =
    elim (opened_by calls edge exit) [
      | None ↦ if exit == edge.from then None else way
      | Some back ↦ Some back
    ]

-- What is open is held for each call, in the order of the notes: the way back that is open at its
-- exit, or none. So calls of one exit have the same.

-- nothing is open
abbrev pub none_open : List Call → List (Option ℕ)
none_open calls = map (λ _. None) calls

-- what is open behind a step at the exits of some of the calls
abbrev pub opened : List Call → Edge → List Call → List (Option ℕ) → List (Option ℕ)
opened all edge [] ways = []
opened all edge (call ∷ calls) [] = []
opened all edge (call ∷ calls) (way ∷ ways) =
    way_behind all edge call.exit.number way ∷ opened all edge calls ways

-- what is open behind a step along an edge
abbrev pub open_after : List Call → Edge → List (Option ℕ) → List (Option ℕ)
open_after calls edge ways = opened calls edge calls ways

-- what is open behind steps along edges, in their order
abbrev pub open_along : List Call → List (Option ℕ) → List Edge → List (Option ℕ)
open_along calls ways [] = ways
open_along calls ways (edge ∷ edges) = open_along calls (open_after calls edge ways) edges

-- The step may go along this edge: where it begins at the exit of a call, it leads to the way back
-- that is open there.
abbrev pub MayGo : List Call → List (Option ℕ) → Edge → Type 0
MayGo [] ways edge = Unit {0}
MayGo (call ∷ calls) [] edge = Unit {0}
MayGo (call ∷ calls) (way ∷ ways) edge =
    (call.exit.number ≡ edge.from → way ≡ Some edge.onto) × MayGo calls ways edge

-- the edges go back from exits as the calls before have it, where these are open at first
abbrev pub GoBack : List Call → List (Option ℕ) → List Edge → Type 0
GoBack calls ways [] = Unit {0}
GoBack calls ways (edge ∷ edges) =
    MayGo calls ways edge × GoBack calls (open_after calls edge ways) edges
