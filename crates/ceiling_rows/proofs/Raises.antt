-- What was looked at stays so: what is kept never falls.
use Rattle.std.proofs.Common.{◌≡◌, ℕ, zero, suc, ◌+◌, ◌-◌, ◌%◌, ◌≤◌, ◌<◌, ◌∷◌, map, Some, subst, sym, ◌∙◌, refl, inl, inr, arith}
use Rattle.std.specs.Prelude.{slice_get, Contains}
use Rattle.std.specs.List.{range_with_len}
use Rattle.std.proofs.lemmas.Bool.{cases_lt, lt-ltb}
use Rattle.base_words.specs.declared.instruction.Instruction.{Instruction}
use Rattle.base_words.specs.Kind.{kind_of}
use Rattle.base_words.specs.Instruction.{instruction}
use Rattle.base_words.specs.Location.{IsLocation}
use Rattle.base_notes.specs.declared.notes.pattern.Pattern.{Pattern}
use Rattle.base_notes.specs.Allowed.{matching}
use Rattle.base_notes.specs.Entries.{entry_in}
use Rattle.machine_steps.specs.Timing.{found}
use Rattle.machine_steps.specs.Ways.{Way, to}
use Rattle.machine_steps.proofs.Chained.{found_keeps_time}
use Rattle.base_graphs.proofs.Lists.{contains_here, contains_there}
use Rattle.flow_graph.proofs.DataAngles.{longest_alike}
use Rattle.ceiling_rows.specs.declared.found.Found.{Found}
use Rattle.ceiling_rows.specs.declared.raised.Raised.{Raised}
use Rattle.ceiling_rows.specs.Raised.{latest, GrowsTo, HasTaken, IsRaised, IsReachedBy}
use Rattle.ceiling_rows.specs.Slot.{slot_of}

pub grows_same : (raised : Raised) → GrowsTo raised raised
grows_same raised = record {
  stop = omega arith;
  most = omega arith;
  onward = λ slot hop at. (hop, at, omega arith, omega arith);
}

pub grows_on : (a b c : Raised) → GrowsTo a b → GrowsTo b c → GrowsTo a c
grows_on a b c first then = record {
  stop = omega (arith, first.stop, then.stop);
  most = omega (arith, first.most, then.most);
  onward = λ slot hop at.
      let so = first.onward slot hop at in
      let more = then.onward slot so.0 so.1 in
      (more.0, more.1, omega (arith, so.2, more.2), omega (arith, so.3, more.3));
}

pub raised_more : (from : Found) (before after : Raised) (ins : Instruction) (way : Way) → GrowsTo before after
    → IsRaised from before ins way → IsRaised from after ins way
raised_more from before after ins way grows is = record {
  within = omega (arith, is.within, grows.most);
  ends = λ nowhere. omega (arith, is.ends nowhere, grows.stop);
  goes_on = λ next on.
      let so = is.goes_on next on in
      let more = grows.onward (slot_of next (found next (latest from ins way) % 50)) so.1.0 so.1.1 in
      (so.0, (more.0, more.1, omega (arith, so.1.2, more.2), omega (arith, so.1.3, more.3)));
}

pub taken_more : (from : Found) (before after : Raised) (ins : Instruction) → GrowsTo before after
    → HasTaken from before ins → HasTaken from after ins
taken_more from before after ins grows has way there = raised_more from before after ins way grows (has way there)

-- A hop that takes as long as one that was looked at, by the same way, was looked at;
pub raised_alike : (from : Found) (raised : Raised) (ins other : Instruction) (way : Way) → ins.op ≡ other.op
    → kind_of ins.d ≡ kind_of other.d → ins.d % 50 ≡ other.d % 50 → IsRaised from raised ins way
    → IsRaised from raised other way
raised_alike from raised ins other way op kind angle is =
    let long : latest from ins way ≡ latest from other way =
    longest_alike (entry_in from.times.now) from.location.number from.angle ins other way op kind angle in
    record {
      within = omega (arith, is.within, long);
      ends = λ nowhere. omega (arith, is.ends nowhere, long);
      goes_on = λ next on. subst (λ (ended : ℕ). IsLocation next
          × IsReachedBy raised.onward.items next from.angle (found next ended) ended) long (is.goes_on next on);
    }

-- and so was one that ends no later, if it goes on on the drum: there the angle makes no
-- difference.
pub raised_sooner : (from : Found) (raised : Raised) (ins other : Instruction) (way : Way)
    → latest from other way ≤ latest from ins way → ((next : ℕ) → way ≡ to next → next < 2000)
    → IsRaised from raised ins way → IsRaised from raised other way
raised_sooner from raised ins other way sooner on_drum is = record {
  within = omega (arith, is.within, sooner);
  ends = λ nowhere. omega (arith, is.ends nowhere, sooner);
  goes_on = λ next on.
      let so = is.goes_on next on in
      let below : next < 2000 = on_drum next on in
      let slot : (angle : ℕ) → slot_of next angle ≡ next = λ angle. rw (lt-ltb next 2000 below) refl in
      let before : found next (latest from other way) ≤ found next (latest from ins way) =
      (found_keeps_time next).monotone (latest from other way) (latest from ins way) sooner in
      let same : slot_of next (found next (latest from ins way) % 50) ≡ slot_of next (found next (latest from other way) % 50) =
      slot (found next (latest from ins way) % 50) ∙ sym (slot (found next (latest from other way) % 50)) in (
        so.0,
        (
          so.1.0,
          subst (λ (n : ℕ). slice_get raised.onward.items n ≡ Some (Some so.1.0)) same so.1.1,
          omega (arith, so.1.2, before),
          omega (arith, so.1.3, sooner),
        ),
      );
}

-- a pattern matches its instruction with each data address within its range
in_range : (at : ℕ → Instruction) (start more d : ℕ) → start ≤ d → d < start + more
    → Contains (map at (range_with_len start more)) (at d)
in_range at start zero d low high = absurd (omega (arith, low, high))
in_range at start (suc more) d low high = elim (cases_lt start d) [
  | inl later ↦ contains_there (at start) (at d) (map at (range_with_len (start + 1) more))
      (in_range at (start + 1) more d (omega (arith, later)) (omega (arith, high)))
  | inr here ↦ (
      let same : start ≡ d = omega (arith, low, here) in
      subst (λ (n : ℕ). Contains (at start ∷ map at (range_with_len (start + 1) more)) (at n)) same
      (contains_here (at start) (map at (range_with_len (start + 1) more))))
]

pub has_matching : (pattern : Pattern) (d : ℕ) → pattern.d_from ≤ d → d < pattern.d_to + 1
    → Contains (matching pattern) (instruction pattern.op d pattern.i)
has_matching pattern d low high =
    in_range (λ n. instruction pattern.op n pattern.i) pattern.d_from (suc pattern.d_to - pattern.d_from) d low
    (omega (arith, low, high))
