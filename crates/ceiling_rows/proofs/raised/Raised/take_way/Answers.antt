-- Of Raised::take_way: where one data address ends no earlier than the others, it counts for all.
-- Else those of one revolution are looked at, and each other one has the angle of one of these, and
-- so its time.
use Rattle.std.proofs.Common.{◌≡◌, ℕ, ◌+◌, ◌-◌, ◌%◌, ◌^◌, ◌<◌, ◌≤◌, subst, sym, ap, inl, inr, ◌∙◌, refl, arith}
use Rattle.std.proofs.lemmas.Bool.{cases_lt}
use Rattle.base_words.specs.declared.instruction.Instruction.{Instruction}
use Rattle.base_words.specs.Instruction.{instruction}
use Rattle.base_words.specs.Kind.{kind_of}
use Rattle.machine_steps.specs.WaysLeft.{seen_way}
use Rattle.flow_graph.specs.Profile.{MayEnd}
use Rattle.flow_graph.proofs.DataAngles.{kind_alike}
use Rattle.ceiling_rows.specs.Raised.{latest, IsRaised}
use Rattle.ceiling_rows.proofs.Raises.{grows_on, grows_same, raised_alike, raised_more, raised_sooner}
use Rattle.ceiling_rows.proofs.raised.Raised.take_way.Goals as goal

pub loop-d-init : goal.loop-d-init
loop-d-init c = record {
  taken = λ d low high. absurd (omega (arith, low, high));
  grown = grows_same c.args.self.now;
  no_more = λ most low each. low;
}

pub take-requires : goal.take-requires
take-requires c =
    subst (λ (ins : Instruction). MayEnd ins (seen_way c.args.way)) (sym c.instruction_of-instruction.ensures)
    (c.requires.may_end c.in-Some.d c.in-Some.ensures.low c.in-Some.ensures.high)

pub returns-in-Some-clause-taken : goal.returns-in-Some-clause-taken
returns-in-Some-clause-taken c other low high =
    let from = c.args.from.now in
    let pattern = c.args.pattern in
    let way = seen_way c.args.way in
    raised_sooner from c.take.new.self (instruction pattern.op c.in-Some.d pattern.i)
    (instruction pattern.op other pattern.i) way (c.in-Some.ensures.ends other low high) c.in-Some.ensures.on_drum
    (subst (λ (ins : Instruction). IsRaised from c.take.new.self ins way) c.instruction_of-instruction.ensures
    c.take.ensures.taken)

pub returns-in-Some-clause-no_more : goal.returns-in-Some-clause-no_more
returns-in-Some-clause-no_more c most low each =
    let from = c.args.from.now in
    let way = seen_way c.args.way in
    c.take.ensures.no_more most low
    (subst (λ (ins : Instruction). latest from ins way + 49 ≤ from.angle + most) (sym c.instruction_of-instruction.ensures)
    (each c.in-Some.d c.in-Some.ensures.low c.in-Some.ensures.high))

pub take-requires-in-loop-d : goal.take-requires-in-loop-d
take-requires-in-loop-d c =
    subst (λ (ins : Instruction). MayEnd ins (seen_way c.args.way)) (sym c.instruction_of-instruction-in-loop-d.ensures)
    (c.requires.may_end c.loop-d.d (omega arith) (omega (arith, c.loop-d-test.true, c.min-last.ensures)))

pub loop-d-preserved : goal.loop-d-preserved
loop-d-preserved c =
    let from = c.args.from.now in
    let pattern = c.args.pattern in
    let way = seen_way c.args.way in
    record {
      taken = λ d low high. elim (cases_lt d c.loop-d.d) [
        | inl before ↦ raised_more from c.loop-d.self c.take-in-loop-d.new.self (instruction pattern.op d pattern.i) way
            c.take-in-loop-d.ensures.grown (c.loop-d.invariant.taken d low before)
        | inr last ↦ (
            let here : c.loop-d.d ≡ d = omega (arith, high, last) in
            let made : c.instruction_of-instruction-in-loop-d.result ≡ instruction pattern.op d pattern.i =
            c.instruction_of-instruction-in-loop-d.ensures ∙ ap (λ (n : ℕ). instruction pattern.op n pattern.i) here in
            subst (λ (ins : Instruction). IsRaised from c.take-in-loop-d.new.self ins way) made c.take-in-loop-d.ensures.taken)
      ];
      grown = grows_on c.args.self.now c.loop-d.self c.take-in-loop-d.new.self c.loop-d.invariant.grown c.take-in-loop-d.ensures.grown;
      no_more = λ most low each. c.take-in-loop-d.ensures.no_more most (c.loop-d.invariant.no_more most low each)
          (subst (λ (ins : Instruction). latest from ins way + 49 ≤ from.angle + most)
          (sym c.instruction_of-instruction-in-loop-d.ensures)
          (each c.loop-d.d (omega arith) (omega (arith, c.loop-d-test.true, c.min-last.ensures))));
    }

-- a data address within a revolution of the first, at the same angle
turned : (start end d : ℕ) → start ≤ d → d < end → (one : ℕ) × (start ≤ one) × (one < end) × (one < start + 50)
    × (one ≤ d) × (one % 50 ≡ d % 50)
turned start end d low high =
    let less : (d - start) % 50 ≤ d - start = omega arith in (
      start + (d - start) % 50,
      omega arith,
      omega (arith, low, high, less),
      omega arith,
      omega (arith, low, less),
      omega (arith, low),
    )

pub returns-clause-taken : goal.returns-clause-taken
returns-clause-taken c d low high =
    let from = c.args.from.now in
    let pattern = c.args.pattern in
    let part = c.requires.part in
    let one = turned c.args.start c.args.end d low high in
    let past = c.loop-d-test.false in
    let last : one.0 < c.loop-d.d = omega (arith, one.2, one.3, past, c.min-last.ensures) in
    let four : d < 10 ^ 4 = omega (arith, high, c.requires.within, pattern.four) in
    let own : one.0 % 10 ^ 4 ≡ one.0 = omega (arith, one.4, four) in
    let its : d % 10 ^ 4 ≡ d = omega (arith, four) in
    let kinds : kind_of one.0 ≡ kind_of d =
    kind_alike one.0 d one.5 (part.drum one.0 one.1 one.2 ∙ sym (part.drum d low high))
    (part.locations one.0 one.1 one.2 ∙ sym (part.locations d low high)) in
    raised_alike from c.loop-d.self (instruction pattern.op one.0 pattern.i) (instruction pattern.op d pattern.i)
    (seen_way c.args.way) refl (ap kind_of own ∙ kinds ∙ sym (ap kind_of its))
    (ap (λ (n : ℕ). n % 50) own ∙ one.5 ∙ sym (ap (λ (n : ℕ). n % 50) its)) (c.loop-d.invariant.taken one.0 one.1 last)
