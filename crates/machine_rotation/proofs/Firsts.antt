-- What each wait computes is the first moment of its property.
use Rattle.std.proofs.Common.{◌≡◌, ℕ, ◌+◌, ◌-◌, ◌%◌, ◌<◌, refl, arith, eq-eqb}
use borrow.Author.Tests.{eqb-true}
use Rattle.base_words.specs.declared.parity.Parity.TheVariants.{Any, Even, Odd}
use Rattle.machine_rotation.specs.Available.{is_angle, has_parity}
use Rattle.machine_rotation.specs.Moment.{first}
use Rattle.machine_rotation.specs.Recurs.{first_is_first, first_is_one}
use Rattle.machine_rotation.specs.Waits.{angle_recurs, parity_recurs}

pub first_of_angle : (angle clock : ℕ) → angle < 50
    → clock + (angle + 50 - clock % 50) % 50 ≡ first (is_angle angle) clock
first_of_angle angle clock h =
    let moment : ℕ = clock + (angle + 50 - clock % 50) % 50 in
    let at : moment % 50 ≡ angle = omega arith in
    first_is_one (is_angle angle) clock moment (first (is_angle angle) clock)
    record {
      has = eq-eqb _ _ at;
      later = omega arith;
      least = λ other after shown. omega (arith, eqb-true (other % 50) angle shown);
    }
    (first_is_first (angle_recurs angle h) clock)

pub first_at_once : (clock : ℕ) → clock ≡ first (has_parity Any) clock
first_at_once clock =
    first_is_one (has_parity Any) clock clock (first (has_parity Any) clock)
    record { has = refl; later = omega arith; least = λ other after _. after }
    (first_is_first (parity_recurs Any) clock)

pub first_of_even : (clock : ℕ) → clock + clock % 2 ≡ first (has_parity Even) clock
first_of_even clock =
    let even : (clock + clock % 2) % 50 % 2 ≡ 0 = omega arith in
    first_is_one (has_parity Even) clock (clock + clock % 2) (first (has_parity Even) clock)
    record {
      has = eq-eqb _ _ even;
      later = omega arith;
      least = λ other after shown. omega (arith, eqb-true (other % 50 % 2) 0 shown);
    }
    (first_is_first (parity_recurs Even) clock)

pub first_of_odd : (clock : ℕ) → clock + (clock + 1) % 2 ≡ first (has_parity Odd) clock
first_of_odd clock =
    let odd : (clock + (clock + 1) % 2) % 50 % 2 ≡ 1 = omega arith in
    first_is_one (has_parity Odd) clock (clock + (clock + 1) % 2) (first (has_parity Odd) clock)
    record {
      has = eq-eqb _ _ odd;
      later = omega arith;
      least = λ other after shown. omega (arith, eqb-true (other % 50 % 2) 1 shown);
    }
    (first_is_first (parity_recurs Odd) clock)
