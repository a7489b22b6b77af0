-- The laws of the first moment at which the angle has a property, where the property comes again
-- and again: the laws of a clockwork.
use Rattle.std.proofs.Common.{◌≡◌, ℕ, zero, suc, ◌+◌, ◌-◌, ◌%◌, ◌<◌, ◌≤◌, Bool, true, false, cond}
use Rattle.std.proofs.Common.{refl, ap, sym, ◌∙◌, inl, inr, arith}
use Rattle.std.proofs.lemmas.Bool.{cases_lt, false≢true}
use Rattle.machine_rotation.specs.Moment.{IsFirst, first_among, first}

-- at or after the clock, `most` word times later at most, there is a moment whose angle has the
-- property
pub record Shows (property : ℕ → Bool) (clock most : ℕ) : Type 0 where
  pub moment : ℕ
  pub later : clock ≤ moment
  pub near : moment ≤ clock + most
  pub has : property (moment % 50) ≡ true

-- from each clock on there is one, less than a revolution later
pub record Recurs (property : ℕ → Bool) (most : ℕ) : Type 0 where
  pub short : most < 50
  pub shows : (clock : ℕ) → Shows property clock most

-- where the angle hasn't the property now, it has it later
has_later : (property : ℕ → Bool) (clock other : ℕ) → property (clock % 50) ≡ false → clock ≤ other
    → property (other % 50) ≡ true → clock + 1 ≤ other
has_later property clock other not_now after has =
    elim (cases_lt clock other) [
      | inl before ↦ omega arith
      | inr past ↦
          let same : other ≡ clock = omega arith in
          absurd (false≢true (sym not_now ∙ ap (λ (t : ℕ). property (t % 50)) (sym same) ∙ has))
    ]

first_among_is_first : (more : ℕ) (property : ℕ → Bool) (clock moment : ℕ) → clock ≤ moment
    → moment < clock + more → property (moment % 50) ≡ true
    → IsFirst property clock (first_among more property clock)
first_among_is_first zero property clock moment later near has = absurd (omega arith)
first_among_is_first (suc more) property clock moment later near has =
    go (property (clock % 50)) refl (λ past. first_among_is_first more property
    (clock + 1) moment past (omega arith) has)
  where
    go : (now : Bool) → property (clock % 50) ≡ now
        → (clock + 1 ≤ moment → IsFirst property (clock + 1)
        (first_among more property (clock + 1)))
        → IsFirst property clock (cond now clock (first_among more property (clock + 1)))
    go true now rest = record { has = now; later = omega arith; least = λ other after _. after }
    go false not_now rest =
        let found = rest (has_later property clock moment not_now later has) in
        record {
          has = found.has;
          later = omega (arith, found.later);
          least =
              λ other after shown. found.least other
              (has_later property clock other not_now after shown) shown;
        }

-- `first` is what its name says
pub first_is_first : {property : ℕ → Bool} {most : ℕ} → Recurs property most → (clock : ℕ)
    → IsFirst property clock (first property clock)
unfolding first
first_is_first {property} {most} recurs clock =
    let shows = recurs.shows clock in
    first_among_is_first 50 property clock shows.moment shows.later
    (omega (arith, recurs.short, shows.near)) shows.has

-- a moment that is the first is the only one
pub first_is_one : (property : ℕ → Bool) (clock a b : ℕ) → IsFirst property clock a
    → IsFirst property clock b → a ≡ b
first_is_one property clock a b p q = omega (
  arith,
  p.least b q.later q.has,
  q.least a p.later p.has,
)

pub never_earlier : {property : ℕ → Bool} {most : ℕ} → Recurs property most → (t : ℕ)
    → t ≤ first property t
never_earlier recurs t = (first_is_first recurs t).later

pub within_span : {property : ℕ → Bool} {most : ℕ} → Recurs property most → (t : ℕ)
    → first property t ≤ t + most
within_span recurs t =
    let shows = recurs.shows t in
    omega (arith, shows.near, (first_is_first recurs t).least shows.moment shows.later shows.has)

pub monotone : {property : ℕ → Bool} {most : ℕ} → Recurs property most → (s t : ℕ) → s ≤ t
    → first property s ≤ first property t
monotone {property} recurs s t before =
    let later = first_is_first recurs t in
    (first_is_first recurs s).least (first property t) (omega (arith, later.later)) later.has

-- a revolution later all is as it was
first_a_revolution_later : (property : ℕ → Bool) (t moment : ℕ) → IsFirst property t moment
    → IsFirst property (t + 50) (moment + 50)
first_a_revolution_later property t moment is_first = record {
  has = let same : (moment + 50) % 50 ≡ moment % 50 = omega arith in ap property same
      ∙ is_first.has;
  later = omega (arith, is_first.later);
  least = λ other after shown.
      let same : (other - 50) % 50 ≡ other % 50 = omega arith in
      omega (arith, is_first.least (other - 50) (omega arith) (ap property same ∙ shown));
}

pub periodic : {property : ℕ → Bool} {most : ℕ} → Recurs property most → (t : ℕ)
    → first property (t + 50) ≡ first property t + 50
periodic {property} recurs t =
    first_is_one property (t + 50) (first property (t + 50)) (first property t + 50)
    (first_is_first recurs (t + 50)) (first_a_revolution_later property t (first property t)
    (first_is_first recurs t))
