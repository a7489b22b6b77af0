-- How long a hop takes at most: of D it is the kind of its location and its angle alone that matter.
use Rattle.std.proofs.Common.{◌≡◌, ℕ, ◌+◌, ◌*◌, ◌%◌, ◌<◌, ◌≤◌, Bool, true, false, if◌then◌else◌, Option, Some, None}
use Rattle.std.proofs.Common.{refl, ap, sym, ◌∙◌, inl, inr, arith}
use Rattle.std.specs.Prelude.{◌==◌, ◌||◌, ◌&&◌, nat_lt, nat_le}
use Rattle.std.proofs.lemmas.Bool.{cases_lt, false≢true, le-ltb, leb-true, lt-ltb, ltb-false, ltb-true, ne_eqb}
use Rattle.base_words.specs.declared.instruction.Instruction.{Instruction}
use Rattle.base_words.specs.declared.location.Kind.{Kind}
use Rattle.base_words.specs.declared.location.Kind.TheVariants.{Drum, Switches, Distributor, Lower, Upper}
use Rattle.base_words.specs.declared.op.Op.{Op}
use Rattle.base_words.specs.declared.op.Op.TheVariants.{Shift}
use Rattle.base_words.specs.declared.op.shift.Shift as shifts
use Rattle.base_words.specs.declared.op.shift.Shift.TheVariants as shift
use Rattle.machine_rotation.specs.Available.{has_parity, is_angle, is_available, is_had}
use Rattle.base_words.specs.Kind.{kind_of}
use Rattle.base_words.specs.Location.{is_location}
use Rattle.machine_rotation.specs.Moment.{first}
use Rattle.base_words.specs.Op.{op_of}
use Rattle.base_notes.specs.declared.entry.Entry.{Entry}
use Rattle.machine_steps.specs.Effect.{places}
use Rattle.machine_steps.specs.Timing.{ready, reached, waits_for_operand}
use Rattle.machine_steps.specs.Ways.{Way, early, to, late}
use Rattle.flow_graph.specs.Walk.{end_by}
use Rattle.flow_graph.specs.Longest.{most_units, most_wait, longest, longest_by}

module _ (d other : ℕ) (kind : kind_of d ≡ kind_of other) (angle : d % 50 ≡ other % 50) where
  -- words of one kind and angle are had at the same moments,
  had_alike : (one : Kind) → is_had one d ≡ is_had one other
  had_alike Drum = ap is_angle angle
  had_alike Switches = refl
  had_alike Distributor = refl
  had_alike Lower = refl
  had_alike Upper = refl

  available_alike : is_available d ≡ is_available other
  available_alike = ap (λ (one : Kind). is_had one d) kind ∙ had_alike (kind_of other)

  reached_alike : (op : Op) (x : ℕ) → reached op d x ≡ reached op other x
  reached_alike op x = ap (λ (is : ℕ → Bool). if waits_for_operand op then first is x else x) available_alike

  -- a shift has as many places,
  digits_alike : d % 10 ≡ other % 10
  digits_alike = omega (arith, angle)

  places_alike : (s : shifts.Shift) → places s d ≡ places s other
  places_alike shift.Right = digits_alike
  places_alike shift.Left = digits_alike
  places_alike shift.Round = ap (λ (n : ℕ). if n == 0 then 10 else n) digits_alike

  units_alike : (op : Op) → most_units op d ≡ most_units op other
  units_alike (Shift s) = places_alike s
  units_alike _ = refl

  -- and a hop ends at the same moment.
  end_alike : (entry : Entry) (op : Op) (way : Way) (place units wait clock : ℕ)
      → end_by way entry op d place units wait clock ≡ end_by way entry op other place units wait clock
  end_alike entry op early place units wait clock = refl
  end_alike entry op (to next) place units wait clock =
      ap (λ (n : ℕ). first (has_parity entry.parity) n + entry.after + entry.per * units + wait)
      (reached_alike op (ready entry place clock))
  end_alike entry op late place units wait clock =
      ap (λ (n : ℕ). first (has_parity entry.parity) n + entry.after + entry.per * units + wait)
      (reached_alike op (ready entry place clock))

-- So do hops of one operation and way.
pub longest_alike : (times : Op → Entry) (place clock : ℕ) (ins other : Instruction) (way : Way) → ins.op ≡ other.op
    → kind_of ins.d ≡ kind_of other.d → ins.d % 50 ≡ other.d % 50
    → longest times place ins way clock ≡ longest times place other way clock
unfolding longest
longest_alike times place clock ins other way op kind angle =
    ap (λ (n : ℕ). longest_by times place ins way clock (op_of n)) op ∙ by (op_of other.op)
  where
    by : (one : Option Op) → longest_by times place ins way clock one ≡ longest_by times place other way clock one
    by None = refl
    by (Some op) =
        ap (λ (units : ℕ). end_by way (times op) op ins.d place units (most_wait op (times op)) clock)
        (units_alike ins.d other.d kind angle op)
        ∙ end_alike ins.d other.d kind angle (times op) op way place (most_units op other.d) (most_wait op (times op))
        clock

-- a location past the drum is one of four
beside : (n : ℕ) → 2000 ≤ n → is_location n ≡ true → (8000 ≤ n) × (n < 8004)
beside n past is = go (nat_le 8000 n) (nat_lt n 8004) refl refl (sym (off (nat_lt n 2000) (le-ltb n 2000 past)) ∙ is)
  where
    off : (drum : Bool) → drum ≡ false → (drum || (nat_le 8000 n && nat_lt n 8004)) ≡ (nat_le 8000 n && nat_lt n 8004)
    off drum none = ap (λ (b : Bool). b || (nat_le 8000 n && nat_lt n 8004)) none

    go : (low high : Bool) → nat_le 8000 n ≡ low → nat_lt n 8004 ≡ high → (low && high) ≡ true
        → (8000 ≤ n) × (n < 8004)
    go true true low high both = (leb-true 8000 n low, ltb-true n 8004 high)
    go true false low high both = cc
    go false high low one both = cc

-- what is none has the last kind
no_location : (n : ℕ) → 2000 ≤ n → is_location n ≡ false → kind_of n ≡ Upper
no_location n past none =
    let other : (k : ℕ) → is_location k ≡ true → n ≡ k → ⊥ =
    λ k there same. false≢true (sym none ∙ ap is_location same ∙ there) in
    rw (
      le-ltb n 2000 past,
      ne_eqb n 8000 (other 8000 refl),
      ne_eqb n 8001 (other 8001 refl),
      ne_eqb n 8002 (other 8002 refl),
    ) refl

-- Addresses of one part and angle have one kind.
pub kind_alike : (a b : ℕ) → a % 50 ≡ b % 50 → nat_lt a 2000 ≡ nat_lt b 2000 → is_location a ≡ is_location b
    → kind_of a ≡ kind_of b
kind_alike a b angle drum location = elim (cases_lt a 2000) [
  | inl on_drum ↦ (
      let both : b < 2000 = ltb-true b 2000 (sym drum ∙ lt-ltb a 2000 on_drum) in
      rw (lt-ltb a 2000 on_drum, lt-ltb b 2000 both) refl)
  | inr past ↦ apart past (ltb-false b 2000 (sym drum ∙ le-ltb a 2000 past)) (is_location b) refl
]
  where
    apart : 2000 ≤ a → 2000 ≤ b → (there : Bool) → is_location b ≡ there → kind_of a ≡ kind_of b
    apart past also true is =
        let here = beside a past (location ∙ is) in
        let there = beside b also is in
        let same : a ≡ b = omega (arith, angle, here.0, here.1, there.0, there.1) in
        ap kind_of same
    apart past also false is = no_location a past (location ∙ is) ∙ sym (no_location b also is)
