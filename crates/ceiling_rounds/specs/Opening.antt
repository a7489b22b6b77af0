-- What hops ask of the ways back that are open at the exits of calls, and how they leave them.
use Rattle.std.specs.Prelude.{◌≡◌, ℕ, List, [], ◌∷◌, length, slice_get, Option, Some, None}
use Rattle.base_words.specs.declared.location.Location.{Location}
use Rattle.base_notes.specs.declared.notes.call.Call.{Call}
use Rattle.machine_steps.specs.Calls.{open_along, way_behind, GoBack}
use Rattle.machine_steps.specs.OpenIn.{number_of}
use Rattle.machine_steps.specs.Since.{Edge}
use Rattle.ceiling_rounds.specs.declared.opening.Opening.{Opening}
use Rattle.ceiling_rounds.specs.declared.opening.Opening.TheVariants.{Kept, Set}

-- what is open at an exit is the way back that is asked, if one is
abbrev pub IsAsked : Option Location → Option ℕ → Type 0
IsAsked None way = Unit {0}
IsAsked (Some back) way = way ≡ Some back.number

-- what is open at an exit meets what the opening asks
abbrev pub Meets : Opening → Option ℕ → Type 0
Meets Kept way = Unit {0}
Meets (Set asks leaves) way = IsAsked asks way

-- what the opening makes of it
abbrev pub way_left : Opening → Option ℕ → Option ℕ
way_left Kept way = way
way_left (Set asks leaves) way = number_of leaves

-- the same of all calls, with an opening for each
abbrev pub Meet : List Opening → List (Option ℕ) → Type 0
Meet [] ways = Unit {0}
Meet (opening ∷ openings) [] = Unit {0}
Meet (opening ∷ openings) (way ∷ ways) = Meets opening way × Meet openings ways

abbrev pub ways_left : List Opening → List (Option ℕ) → List (Option ℕ)
ways_left [] ways = ways
ways_left (opening ∷ openings) [] = []
ways_left (opening ∷ openings) (way ∷ ways) = way_left opening way ∷ ways_left openings ways

-- The openings are right for steps along edges: where what is open before the steps meets what the
-- openings ask, the steps go back from exits as the calls have it, and what is open behind them is
-- what the openings make of it.
pub record AreRight (calls : List Call) (edges : List Edge) (openings : List Opening) : Type 0
  where
    pub each : length openings ≡ length calls
    pub back : (ways : List (Option ℕ)) → length ways ≡ length calls → Meet openings ways
        → GoBack calls ways edges
    pub left : (ways : List (Option ℕ)) → length ways ≡ length calls → Meet openings ways
        → open_along calls ways edges ≡ ways_left openings ways

-- the opening is right for a step along an edge, at an exit
abbrev pub IsOfStep : List Call → Edge → ℕ → Opening → Type 0
IsOfStep calls edge exit opening =
    (way : Option ℕ) → Meets opening way
    → (exit ≡ edge.from → way ≡ Some edge.onto)
    × (way_left opening way ≡ way_behind calls edge exit way)

-- What two openings come to, one behind the other: what meets it meets the first, and what the
-- first makes of it meets the next, which makes the same of that.
abbrev pub IsBoth : Opening → Opening → Opening → Type 0
IsBoth first next both =
    (way : Option ℕ) → Meets both way
    → Meets first way × Meets next (way_left first way)
    × (way_left both way ≡ way_left next (way_left first way))

-- the same of all calls
abbrev pub AreBoth : List Opening → List Opening → List Opening → Type 0
AreBoth [] [] [] = Unit {0}
AreBoth (first ∷ firsts) (next ∷ nexts) (both ∷ all) =
    IsBoth first next both × AreBoth firsts nexts all
AreBoth _ _ _ = ⊥

-- the opening is what those at an index come to, one behind the other
abbrev pub IsBothAt : List Opening → List Opening → ℕ → Opening → Type 0
IsBothAt firsts nexts index both =
    (first : Opening) × (slice_get firsts index ≡ Some first) × ((next : Opening)
    × (slice_get nexts index ≡ Some next) × IsBoth first next both)
