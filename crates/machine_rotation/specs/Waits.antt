-- Each wait is for a property that recurs.
use Rattle.std.proofs.Common.{◌≡◌, ℕ, ◌+◌, ◌-◌, ◌%◌, ◌<◌, refl, arith, eq-eqb}
use Rattle.base_words.specs.declared.location.Kind.{Kind}
use Rattle.base_words.specs.declared.location.Kind.TheVariants.{Drum, Switches, Distributor, Lower}
use Rattle.base_words.specs.declared.location.Kind.TheVariants.{Upper}
use Rattle.base_words.specs.declared.parity.Parity.{Parity}
use Rattle.base_words.specs.declared.parity.Parity.TheVariants.{Any, Even, Odd}
use Rattle.machine_rotation.specs.Available.{is_angle, has_parity, is_had, is_available}
use Rattle.base_words.specs.Kind.{kind_of}
use Rattle.machine_rotation.specs.Recurs.{Recurs}
use Rattle.machine_rotation.specs.Span.{parity_span, kind_span}

pub angle_recurs : (angle : ℕ) → angle < 50 → Recurs (is_angle angle) 49
angle_recurs angle h = record {
  short = omega arith;
  shows = λ t.
      let at : (t + (angle + 50 - t % 50) % 50) % 50 ≡ angle = omega arith in
      record {
        moment = t + (angle + 50 - t % 50) % 50;
        later = omega arith;
        near = omega arith;
        has = eq-eqb _ _ at;
      };
}

pub parity_recurs : (parity : Parity) → Recurs (has_parity parity) (parity_span parity)
parity_recurs Any = record {
  short = omega arith;
  shows =
      λ t. record { moment = t; later = omega arith; near = omega arith; has = refl };
}
parity_recurs Even = record {
  short = omega arith;
  shows = λ t.
      let even : (t + t % 2) % 50 % 2 ≡ 0 = omega arith in
      record { moment = t + t % 2; later = omega arith; near = omega arith; has = eq-eqb _ _ even };
}
parity_recurs Odd = record {
  short = omega arith;
  shows = λ t.
      let odd : (t + (t + 1) % 2) % 50 % 2 ≡ 1 = omega arith in
      record {
        moment = t + (t + 1) % 2;
        later = omega arith;
        near = omega arith;
        has =
            eq-eqb _ _ odd;
      };
}

had_recurs : (kind : Kind) (n : ℕ) → Recurs (is_had kind n) (kind_span kind)
had_recurs Drum n = angle_recurs (n % 50) (omega arith)
had_recurs Switches n = parity_recurs Any
had_recurs Distributor n = parity_recurs Any
had_recurs Lower n = parity_recurs Even
had_recurs Upper n = parity_recurs Odd

pub available_recurs : (n : ℕ) → Recurs (is_available n) (kind_span (kind_of n))
available_recurs n = had_recurs (kind_of n) n
