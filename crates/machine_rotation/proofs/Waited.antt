-- Laws of waits: one that is over takes no time, and one for an angle ends at that angle, whenever it begins.
use Rattle.std.proofs.Common.{◌≡◌, ℕ, ◌+◌, ◌-◌, ◌*◌, ◌/◌, ◌%◌, ◌<◌, ◌≤◌, Bool, refl, ap, arith}
use Rattle.std.proofs.lemmas.Bool.{lt-ltb, eqb-true}
use Rattle.base_words.specs.declared.location.Kind.{Kind}
use Rattle.base_words.specs.declared.location.Kind.TheVariants.{Drum}
use Rattle.machine_rotation.specs.Available.{is_angle, is_had, is_available}
use Rattle.base_words.specs.Kind.{kind_of}
use Rattle.machine_rotation.specs.Moment.{first}
use Rattle.machine_rotation.specs.Recurs.{Recurs, first_is_first, first_is_one, never_earlier, within_span}
use Rattle.machine_rotation.specs.Waits.{angle_recurs}

-- the first of the first is itself
pub first_again : {property : ℕ → Bool} {most : ℕ} → Recurs property most → (t : ℕ)
    → first property (first property t) ≡ first property t
first_again {property} recurs t =
    let once = first_is_first recurs t in
    first_is_one property (first property t) (first property (first property t)) (first property t)
    (first_is_first recurs (first property t))
    (record { has = once.has; later = omega arith; least = λ other after shown. after })

module _ (angle : ℕ) (on_drum : angle < 50) where
  -- it ends at its angle
  pub at_angle : (t : ℕ) → first (is_angle angle) t % 50 ≡ angle
  at_angle t = eqb-true (first (is_angle angle) t % 50) angle (first_is_first (angle_recurs angle on_drum) t).has

  -- two of them end whole revolutions apart
  pub angles_apart : (s t : ℕ) → first (is_angle angle) s ≤ first (is_angle angle) t → (k : ℕ)
      × (first (is_angle angle) s + 50 * k ≡ first (is_angle angle) t)
  angles_apart s t before =
      let sooner : ℕ = first (is_angle angle) s in
      let later : ℕ = first (is_angle angle) t in
      ((later - sooner) / 50, omega (arith, before, at_angle s, at_angle t))

  -- one that begins just behind its angle takes a revolution, less one
  pub longest_behind : (t : ℕ) → t % 50 ≡ (angle + 1) % 50 → first (is_angle angle) t ≡ t + 49
  longest_behind t behind =
      omega (
        arith,
        behind,
        at_angle t,
        never_earlier (angle_recurs angle on_drum) t,
        within_span
            (angle_recurs angle on_drum) t,
      )

-- a drum word is had at its angle
pub drum_at_angle : (n : ℕ) → n < 2000 → is_available n ≡ is_angle (n % 50)
drum_at_angle n below =
    let drum : kind_of n ≡ Drum = rw (lt-ltb n 2000 below) refl in
    ap (λ (kind : Kind). is_had kind n) drum
