-- The executed locations without a list, as they are held: a flag for each number of a location.
use Rattle.std.specs.Prelude.{◌≡◌, ℕ, Bool, true, IsTrue, List, slice_get, Some, Contains}
use Rattle.base_notes.specs.Allowed.{Notes, is_listed}
use Rattle.flow_acceptance.specs.declared.fixed.Fixed.{Fixed}

-- the flag of a number is set
abbrev pub IsFlagged : Fixed → ℕ → Type 0
IsFlagged fixed place = slice_get fixed.flags.items place ≡ Some true

-- The flags are those of these locations that aren't listed.
pub record AreFlagged (places : List ℕ) (notes : Notes) (flags : List Bool) : Type 0 where
  pub fixed : (place : ℕ) → slice_get flags place ≡ Some true → Contains places place
      × ¬ IsTrue (is_listed notes place)
  pub flagged : (place : ℕ) → Contains places place → ¬ IsTrue (is_listed notes place)
      → slice_get flags place ≡ Some true
