-- Of Raised::take_pattern: the data addresses are taken in stretches with the same ways and of one
-- part. All before d have been looked at, and what was looked at stays so.
use Rattle.std.proofs.Common.{◌≡◌, ℕ, ◌<◌, ◌≤◌, sym, ap, inl, inr, ◌∙◌, arith}
use Rattle.std.specs.Prelude.{nat_lt}
use Rattle.std.proofs.lemmas.Bool.{cases_lt}
use Rattle.base_words.specs.declared.instruction.Instruction.{Instruction}
use Rattle.base_words.specs.Instruction.{instruction}
use Rattle.base_words.specs.Location.{is_location}
use Rattle.machine_steps.specs.Ways.{ways}
use Rattle.flow_graph.proofs.Matched.{each_in_pattern, matching_at, matching_d, matching_with_d}
use Rattle.ceiling_rows.specs.Raised.{HasTaken}
use Rattle.ceiling_rows.proofs.Raises.{grows_on, grows_same, has_matching, taken_more}
use Rattle.ceiling_rows.proofs.raised.Raised.take_pattern.Goals as goal

pub take_alike-requires-clause-alike : goal.take_alike-requires-clause-alike
take_alike-requires-clause-alike c =
    let notes = c.args.from.now.notes.now in
    let pattern = c.args.pattern in
    let ins = c.instruction_of.result in
    let made = c.instruction_of.ensures in
    let at : ins.d ≡ c.loop-d.d =
    ap (λ (one : Instruction). one.d) made ∙ matching_d pattern c.loop-d.d c.loop-d-test.true in
    let within : (d : ℕ) → d < c.min-end.result → d < c.same_ways_end.result =
    λ d below. omega (arith, below, c.min-end.ensures) in
    let own : (d : ℕ) → c.loop-d.d ≤ d → ins.d ≤ d = λ d low. omega (arith, at, low) in
    let its : (d : ℕ) → c.loop-d.d ≤ d → d < c.min-end.result → ways notes (matching_at pattern d) ≡ ways notes ins =
    λ d low high. sym (ap (ways notes) (matching_with_d pattern ins c.loop-d.d d made))
    ∙ c.same_ways_end.ensures.same d (own d low) (within d high) in
    record {
      ways = λ d low high. its d low high ∙ ap (ways notes) made;
      part = record {
        drum = λ d low high. c.same_ways_end.ensures.drum d (own d low) (within d high) ∙ ap (λ (n : ℕ). nat_lt n 2000) at;
        locations = λ d low high. c.same_ways_end.ensures.locations d (own d low) (within d high) ∙ ap is_location at;
      };
    }

pub loop-d-init : goal.loop-d-init
loop-d-init c = record {
  from = omega arith;
  taken = λ d low high. absurd (omega (arith, low, high));
  grown = grows_same c.args.self.now;
  no_more = λ most low each. low;
}

pub loop-d-preserved : goal.loop-d-preserved
loop-d-preserved c =
    let from = c.args.from.now in
    let pattern = c.args.pattern in
    let ins = c.instruction_of.result in
    let at : ins.d ≡ c.loop-d.d =
    ap (λ (one : Instruction). one.d) c.instruction_of.ensures ∙ matching_d pattern c.loop-d.d c.loop-d-test.true in
    record {
      from = omega (arith, c.loop-d.invariant.from, at, c.same_ways_end.ensures.past, c.min-end.ensures);
      taken = λ d low high. elim (cases_lt d c.loop-d.d) [
        | inl before ↦ taken_more from c.loop-d.self c.take_alike.new.self (instruction pattern.op d pattern.i)
            c.take_alike.ensures.grown (c.loop-d.invariant.taken d low before)
        | inr now ↦ c.take_alike.ensures.taken d now high
      ];
      grown = grows_on c.args.self.now c.loop-d.self c.take_alike.new.self c.loop-d.invariant.grown
          c.take_alike.ensures.grown;
      no_more = λ most low each. c.take_alike.ensures.no_more most (c.loop-d.invariant.no_more most low each)
          (λ d from_d to_end. each (instruction c.args.pattern.op d c.args.pattern.i)
          (has_matching c.args.pattern d (omega (arith, c.loop-d.invariant.from, from_d))
          (omega (arith, to_end, c.min-end.ensures))));
    }

pub returns-clause-taken : goal.returns-clause-taken
returns-clause-taken c =
    each_in_pattern (HasTaken c.args.from.now c.loop-d.self) c.args.pattern
    (λ d low high. c.loop-d.invariant.taken d low (omega (arith, high, c.loop-d-test.false)))
