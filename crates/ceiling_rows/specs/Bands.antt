-- What stands at numbers, by bands of fifty: of slots a band of the drum, or the angles of one
-- location.
use Rattle.std.specs.Prelude.{◌≡◌, ℕ, ◌/◌, Bool, true, List, Option, Some, slice_get}

-- Where anything stands at a number, its band is marked.
abbrev pub AreInBands : {X : Type 0} → List (Option X) → List Bool → Type 0
AreInBands {X} all bands =
    (k : ℕ) (x : X) → slice_get all k ≡ Some (Some x) → slice_get bands (k / 50) ≡ Some true
