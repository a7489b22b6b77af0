-- With the data address that is found last, or that a shift goes farthest with, a hop ends last.
use Rattle.std.proofs.Common.{◌≡◌, ◌≢◌, ℕ, ◌+◌, ◌%◌, ◌<◌, ◌≤◌, Bool, true, false, if◌then◌else◌, Some}
use Rattle.std.proofs.Common.{refl, ap, sym, ◌∙◌, inl, inr, arith}
use Rattle.std.specs.Prelude.{◌||◌, ◌&&◌, nat_lt, nat_le}
use Rattle.std.proofs.Math.Nat.{mul-le-mul_left}
use Rattle.std.proofs.lemmas.Bool.{cases_lt, le-ltb, leb-true, lt-ltb, ltb-true, ne_eqb, false≢true}
use Rattle.base_words.specs.declared.location.Kind.{Kind}
use Rattle.base_words.specs.declared.location.Kind.TheVariants.{Upper}
use Rattle.base_words.specs.declared.op.Op.{Op}
use Rattle.base_words.specs.declared.op.Op.TheVariants.{Shift}
use Rattle.base_words.specs.declared.op.shift.Shift as shifts
use Rattle.machine_rotation.specs.Available.{is_angle, is_available, is_had}
use Rattle.base_words.specs.Kind.{kind_of}
use Rattle.base_words.specs.Location.{is_location}
use Rattle.machine_rotation.specs.Moment.{first}
use Rattle.machine_rotation.specs.Recurs.{monotone}
use Rattle.machine_rotation.specs.Waits.{parity_recurs}
use Rattle.machine_rotation.proofs.Waited.{drum_at_angle, longest_behind}
use Rattle.base_words.specs.Op.{op_of}
use Rattle.base_notes.specs.declared.entry.Entry.{Entry}
use Rattle.base_notes.specs.declared.notes.pattern.Pattern.{Pattern}
use Rattle.base_notes.specs.Entries.{entry_in}
use Rattle.machine_steps.specs.Timing.{ended, found, reached, ready, waits_for_operand}
use Rattle.machine_steps.specs.Ways.{Way, early, to, late}
use Rattle.machine_steps.proofs.Chained.{found_keeps_time}
use Rattle.flow_graph.specs.Longest.{most_units, most_wait}
use Rattle.flow_graph.specs.Walk.{end_by}
use Rattle.flow_graph.proofs.LongestLaws.{longest_of}
use Rattle.flow_graph.proofs.Matched.{matching_at, matching_d, matching_op}
use Rattle.ceiling_rows.specs.declared.found.Found.{Found}
use Rattle.ceiling_rows.specs.Raised.{latest}
use Rattle.ceiling_rows.specs.Slowest.{is_ready, AreOfOnePart, IsSlowest, IsSlowestAngle}

-- what is no shift has as many units with each D
pub units_same : (op : Op) → ((s : shifts.Shift) → op ≢ Shift s) → (d other : ℕ)
    → most_units op other ≤ most_units op d
units_same (Shift s) none d other = absurd (none s refl)
units_same _ none d other = omega arith

-- a drum word whose angle has just gone by is found as late as any
last_found : (d other x : ℕ) → d < 2000 → d % 50 ≡ (x + 49) % 50 → found other x ≤ found d x
last_found d other x on_drum gone_by =
    let had : found d x ≡ first (is_angle (d % 50)) x =
    ap (λ (property : ℕ → Bool). first property x) (drum_at_angle d on_drum) in
    let late : first (is_angle (d % 50)) x ≡ x + 49 =
    longest_behind (d % 50) (omega arith) x (omega (arith, gone_by)) in
    omega (arith, had, late, (found_keeps_time other).within_span x)

pub last_reached : (op : Op) (d other x : ℕ) → d < 2000 → d % 50 ≡ (x + 49) % 50 → reached op other x ≤ reached op d x
last_reached op d other x on_drum gone_by = go (waits_for_operand op)
  where
    go : (waits : Bool) → (if waits then found other x else x) ≤ (if waits then found d x else x)
    go true = last_found d other x on_drum gone_by
    go false = omega arith

-- what is no location is found when 8003 is,
no_location : (n : ℕ) → 2000 ≤ n → is_location n ≡ false → is_available n ≡ is_had Upper n
no_location n past none =
    let other : (k : ℕ) → is_location k ≡ true → n ≡ k → ⊥ =
    λ k there same. false≢true (sym none ∙ ap is_location same ∙ there) in
    let upper : kind_of n ≡ Upper =
    rw (
      le-ltb n 2000 past,
      ne_eqb n 8000 (other 8000 refl),
      ne_eqb n 8001 (other 8001 refl),
      ne_eqb n 8002 (other 8002 refl),
    ) refl in
    ap (λ (kind : Kind). is_had kind n) upper

none_reached : (op : Op) (d other x : ℕ) → 2000 ≤ d → is_location d ≡ false → 2000 ≤ other → is_location other ≡ false
    → reached op other x ≡ reached op d x
none_reached op d other x d_past d_none other_past other_none =
    ap (λ (had : ℕ → Bool). if waits_for_operand op then first had x else x)
    (no_location other other_past other_none ∙ sym (no_location d d_past d_none))

-- and fifty addresses are more than the locations beside the drum
not_beside : (n : ℕ) → 2000 ≤ n → is_location n ≡ true → (8000 ≤ n) × (n < 8004)
not_beside n past is =
    go (nat_le 8000 n) (nat_lt n 8004) refl refl (sym (off (nat_lt n 2000) (le-ltb n 2000 past)) ∙ is)
  where
    off : (drum : Bool) → drum ≡ false → (drum || (nat_le 8000 n && nat_lt n 8004)) ≡ (nat_le 8000 n && nat_lt n 8004)
    off drum none = ap (λ (b : Bool). b || (nat_le 8000 n && nat_lt n 8004)) none

    go : (low high : Bool) → nat_le 8000 n ≡ low → nat_lt n 8004 ≡ high → (low && high) ≡ true
        → (8000 ≤ n) × (n < 8004)
    go true true low high both = (leb-true 8000 n low, ltb-true n 8004 high)
    go true false low high both = cc
    go false high low one both = cc

-- So of the addresses of one part that are a revolution at least, one that is found last on the drum is found last.
pub part_reached : (op : Op) (start end d other x : ℕ) → AreOfOnePart start end → start + 50 ≤ end → start ≤ d → d < end
    → start ≤ other → other < end → (d < 2000 → reached op other x ≤ reached op d x)
    → reached op other x ≤ reached op d x
part_reached op start end d other x part long low high other_low other_high on_drum = elim (cases_lt start 2000) [
  | inl drum ↦ on_drum (ltb-true d 2000 (part.drum d low high ∙ lt-ltb start 2000 drum))
  | inr past ↦ beyond past (is_location start) refl
]
  where
    beyond : 2000 ≤ start → (there : Bool) → is_location start ≡ there → reached op other x ≤ reached op d x
    beyond past true is =
        let first_one = not_beside start past is in
        let last : is_location (start + 49) ≡ true = part.locations (start + 49) (omega arith) (omega (arith, long)) ∙ is in
        let last_one = not_beside (start + 49) (omega (arith, past)) last in
        absurd (omega (arith, first_one.0, last_one.1))
    beyond past false is =
        omega (
          arith,
          none_reached op d other x (omega (arith, past, low)) (part.locations d low high ∙ is)
              (omega (arith, past, other_low)) (part.locations other other_low other_high ∙ is),
        )

-- With data that is found no earlier, and no fewer units, a hop ends no earlier.
pub slower_end : (entry : Entry) (op : Op) (way : Way) (place clock d other wait : ℕ)
    → most_units op other ≤ most_units op d
    → reached op other (ready entry place clock) ≤ reached op d (ready entry place clock)
    → end_by way entry op other place (most_units op other) wait clock
    ≤ end_by way entry op d place (most_units op d) wait clock
slower_end entry op way place clock d other wait units later = by way
  where
    acts : ended entry op other place (most_units op other) wait clock ≤ ended entry op d place (most_units op d) wait clock
    acts =
        omega (
          arith,
          monotone (parity_recurs entry.parity) (reached op other (ready entry place clock))
              (reached op d (ready entry place clock)) later,
          mul-le-mul_left entry.per units,
        )

    by : (one : Way) → end_by one entry op other place (most_units op other) wait clock
        ≤ end_by one entry op d place (most_units op d) wait clock
    by early = omega arith
    by (to next) = acts
    by late = acts

-- So a data address at the slowest angle is the slowest.
pub slowest_of : (from : Found) (pattern : Pattern) (way : Way) (start end d angle : ℕ) (op : Op)
    → op_of pattern.op ≡ Some op → end ≤ pattern.d_to + 1 → AreOfOnePart start end → start + 50 ≤ end
    → IsSlowestAngle op (is_ready from op) angle → d % 50 ≡ angle → start ≤ d → d < end
    → ((next : ℕ) → way ≡ to next → next < 2000) → IsSlowest from pattern way start end d
slowest_of from pattern way start end d angle op is within part long slowest at low high on_drum = record {
  low = low;
  high = high;
  ends = λ other other_low other_high.
      let units : most_units op other ≤ most_units op d = slowest.units d other at in
      let later : reached op other (is_ready from op) ≤ reached op d (is_ready from op) =
      part_reached op start end d other (is_ready from op) part long low high other_low other_high
      (slowest.reached d other at) in
      omega (
        arith,
        ends_at d (omega (arith, high, within)),
        ends_at other (omega (arith, other_high, within)),
        slower_end (times op) op way place from.angle d other (most_wait op (times op)) units later,
      );
  on_drum = on_drum;
}
  where
    times : Op → Entry
    times = entry_in from.times.now

    place : ℕ
    place = from.location.number

    ends_at : (n : ℕ) → n ≤ pattern.d_to → latest from (matching_at pattern n) way
        ≡ end_by way (times op) op n place (most_units op n) (most_wait op (times op)) from.angle
    ends_at n to_end =
        longest_of times place (matching_at pattern n) way from.angle op (ap op_of (matching_op pattern) ∙ is)
        ∙ ap (λ (k : ℕ). end_by way (times op) op k place (most_units op k) (most_wait op (times op)) from.angle)
        (matching_d pattern n to_end)
