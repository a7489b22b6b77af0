-- Flags that are set for the members of a list.
use Rattle.std.specs.Prelude.{◌≡◌, ℕ, Bool, true, List, slice_get, Some, Contains}

-- The flags of these numbers are set, and no others.
pub record AreFlags (flags : List Bool) (members : List ℕ) : Type 0 where
  pub only : (member : ℕ) → slice_get flags member ≡ Some true → Contains members member
  pub all : (member : ℕ) → Contains members member → slice_get flags member ≡ Some true
