-- The entries of the map in which the table grows.
use Rattle.std.specs.Prelude.{◌≡◌, ℕ, ◌<◌, Option, None, IfSome, length, nat_eq, position}
use Rattle.std.specs.List.{IsDistinct}
use Rattle.std.specs.Map.{keys_of}
use Rattle.indexmap.specs.IndexMap.{get}
use Rattle.bound_scan.specs.declared.cells.limited.Limited.{Limited}

-- no key has two
abbrev pub AreApart : Limited → Type 0
AreApart limited = IsDistinct nat_eq (keys_of limited.map.entries)

-- the index of a key's entry is this; no entry has the key where there is none
pub record IsFound (limited : Limited) (key : ℕ) (index : Option ℕ) : Type 0 where
  pub at : position (nat_eq key) (keys_of limited.map.entries) ≡ index
  pub inside : IfSome index (λ at. at < length limited.map.entries)
  pub none : index ≡ None → get nat_eq limited.map key ≡ None
