-- The first moment at which the drum's angle has a property. A clock counts word times from a
-- moment of angle 0 on, and a revolution has 50 (IBM 650 Manual of Operation), so the angle at a
-- clock is the rest of its division by 50. (`found`, in `Timing` of `machine_steps`, makes it the
-- moment at which a word is had.)
use Rattle.std.specs.Prelude.{◌≡◌, ℕ, zero, suc, ◌+◌, ◌%◌, ◌≤◌, Bool, true, if◌then◌else◌}

-- It is a moment at or after the clock at which the angle has the property, and no such moment is
-- earlier.
pub record IsFirst (property : ℕ → Bool) (clock moment : ℕ) : Type 0 where
  pub has : property (moment % 50) ≡ true
  pub later : clock ≤ moment
  pub least : (other : ℕ) → clock ≤ other → property (other % 50) ≡ true → moment ≤ other

-- of the moments from a clock on, as many as the number says and one more, the first at which the
-- angle has the property; the last, where none of those before it does
abbrev pub first_among : ℕ → (ℕ → Bool) → ℕ → ℕ
first_among zero property clock = clock
first_among (suc more) property clock =
    if property (clock % 50) then clock else first_among more property (clock + 1)

-- the first moment from a clock on at which the angle has the property: a revolution shows every
-- angle; where none has it, a revolution later
unfoldable pub first : (ℕ → Bool) → ℕ → ℕ
first property clock = first_among 50 property clock
