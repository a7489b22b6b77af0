-- Of first_altered_in: up to `same_writes_end` all data addresses from d on write the same words,
-- so one instruction is looked at for all of these. None before d alters a word.
use Rattle.std.proofs.Common.{◌≡◌, ℕ, Contains, List, sym, ap, ◌∙◌, subst, inl, inr, arith}
use Rattle.std.proofs.lemmas.Bool.{cases_lt}
use Rattle.base_words.specs.declared.instruction.Instruction.{Instruction}
use Rattle.read_decks.specs.InDeck.{loads_in, start_in}
use Rattle.machine_steps.specs.Writes.{writes}
use Rattle.flow_graph.specs.Flow.{deck_of, notes_of}
use Rattle.flow_graph.specs.Accepted as said
use Rattle.flow_graph.specs.Accepted.{IsLowestAltered}
use Rattle.flow_graph.proofs.Matched.{matching_at, matching_d, matching_with_d, first_in_pattern, none_in_pattern}
use Rattle.flow_acceptance.proofs.altering.first_altered_in.Goals as goal

pub returns-in-Some-clause-some : goal.returns-in-Some-clause-some
returns-in-Some-clause-some c =
    let flow = c.args.flow.now in
    let pattern = c.args.pattern in
    let d = c.loop-d.d in
    let word = c.in-Some.word.number in
    let lowest : IsLowestAltered (loads_in (deck_of flow)) (notes_of flow) (start_in (deck_of flow))
    (matching_at pattern d) word =
    subst (λ (ins : Instruction). IsLowestAltered (loads_in (deck_of flow)) (notes_of flow) (start_in (deck_of flow)) ins
    word) c.instruction_of-instruction.ensures c.in-Some.ensures.some in
    record {
      ins = matching_at pattern d;
      first =
          first_in_pattern (said.Alters (loads_in (deck_of flow)) (notes_of flow) (start_in (deck_of flow))) pattern d
          c.loop-d.invariant.from c.loop-d-test.true c.loop-d.invariant.none
          (word, lowest.written, lowest.fixed);
      lowest = lowest;
    }

pub loop-d-preserved : goal.loop-d-preserved
loop-d-preserved c =
    let flow = c.args.flow.now in
    let pattern = c.args.pattern in
    let d = c.loop-d.d in
    let ins = c.instruction_of-instruction.result in
    let made = c.instruction_of-instruction.ensures in
    let at : ins.d ≡ d = ap (λ (one : Instruction). one.d) made ∙ matching_d pattern d c.loop-d-test.true in
    record {
      from = omega (arith, c.loop-d.invariant.from, at, c.same_writes_end-d.ensures.past);
      none = λ k low high alters. elim (cases_lt k d) [
        | inl before ↦ c.loop-d.invariant.none k low before alters
        | inr here ↦ (let same : writes (matching_at pattern k) ≡ writes ins =
            sym (ap (λ (one : Instruction). writes one) (matching_with_d pattern ins d k made))
            ∙ c.same_writes_end-d.ensures.same k (omega (arith, at, here)) high in
            c.in_default.ensures.none
            (alters.0, subst (λ (words : List ℕ). Contains words alters.0) same alters.1, alters.2))
      ];
    }

pub returns-clause-none : goal.returns-clause-none
returns-clause-none c =
    let flow = c.args.flow.now in
    none_in_pattern (said.Alters (loads_in (deck_of flow)) (notes_of flow) (start_in (deck_of flow))) c.args.pattern
    (λ k low high. c.loop-d.invariant.none k low (omega (arith, high, c.loop-d-test.false)))
