-- Where hops begin.
use Rattle.std.specs.Prelude.{◌≡◌, ℕ, List, [], ◌∷◌, length, slice_get, unwrap_or, Option}
use Rattle.std.specs.Prelude.{Some, None}
use Rattle.flow_walks.specs.Pieces.{spelled_at, PlacedHop}
use Rattle.print_ceilings.specs.declared.ends.Ends.{Ends}

-- the place of the first of hops, and of the last
abbrev pub first_of : List PlacedHop → Option ℕ
first_of [] = None
first_of (hop ∷ hops) = Some hop.place

abbrev pub last_of : List PlacedHop → Option ℕ
last_of [] = None
last_of (hop ∷ hops) = Some (unwrap_or (last_of hops) hop.place)

-- the two are these
abbrev pub AreEnds : Option Ends → List PlacedHop → Type 0
AreEnds None hops = hops ≡ []
AreEnds (Some ends) hops =
    (first_of hops ≡ Some ends.first.number) × (last_of hops ≡ Some ends.last.number)

-- those of what each of some pieces spells out
pub record AreAllEnds (ends : List (Option Ends)) (spells : List (List PlacedHop)) : Type 0 where
  pub each : length ends ≡ length spells
  pub ends_of : (number : ℕ) (one : Option Ends) → slice_get ends number ≡ Some one
      → AreEnds one (spelled_at spells number)
