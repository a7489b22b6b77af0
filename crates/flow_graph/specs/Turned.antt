-- A list turned round so that its smallest member is the first.
use Rattle.std.specs.Prelude.{◌≡◌, ℕ, ◌≤◌, List, ◌++◌, take, drop, slice_get, Some, Contains}

-- no member is smaller than the one with this index
abbrev pub IsLeastAt : List ℕ → ℕ → Type 0
IsLeastAt list place = (least other : ℕ) → slice_get list place ≡ Some least → Contains list other
    → least ≤ other

-- the list from the index of its smallest member on, and then what is before it
pub record IsTurned (list turned : List ℕ) : Type 0 where
  pub place : ℕ
  pub member : (least : ℕ) × (slice_get list place ≡ Some least)
  pub least : IsLeastAt list place
  pub parts : turned ≡ drop place list ++ take place list
