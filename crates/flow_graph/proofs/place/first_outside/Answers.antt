-- Of first_outside: all instructions of a pattern have its operation, so where that is outside the
-- profile the pattern's first instruction is the first; and no pattern before it has such an
-- operation.
use Rattle.std.proofs.Common.{◌≡◌, ℕ, true, false, not, Option, ap, sym, ◌∙◌, subst, arith}
use Rattle.std.specs.Prelude.{is_some}
use Rattle.base_words.specs.declared.instruction.Instruction.{Instruction}
use Rattle.base_words.specs.declared.op.Op.{Op}
use Rattle.read_decks.specs.InDeck.{loads_in}
use Rattle.base_words.specs.Op.{op_of}
use Rattle.base_notes.specs.Allowed.{allowed}
use Rattle.flow_graph.specs.Accepted.{IsFirstIn}
use Rattle.flow_graph.specs.Patterns.{patterns_left}
use Rattle.flow_graph.specs.Accepted.{IsOutside}
use Rattle.flow_graph.proofs.Matched.{matching_at, matching_op, first_in_pattern, first_in_all, none_in_pattern}
use Rattle.flow_graph.proofs.Matched.{none_in_more, patterns_taken}
use Rattle.flow_graph.proofs.place.first_outside.Goals as goal

apart : ¬ (true ≡ false)
apart e = cc

pub returns-then-is_none-clause-first : goal.returns-then-is_none-clause-first
returns-then-is_none-clause-first c =
    let pattern = c.in-Some.pattern in
    let found : is_some (op_of pattern.op) ≡ false =
    sym (ap (λ (op : Option Op). is_some op) c.of.ensures.listed) ∙ c.is_none.ensures ∙ ap not c.if-is_none.true in
    subst (λ (ins : Instruction). IsFirstIn (allowed (loads_in c.args.deck.now) c.args.notes.now c.args.location.number)
    IsOutside ins) (sym c.instruction_of.ensures)
    (first_in_all IsOutside c.loop-pattern.yielded (patterns_left c.next.new.self)
    (patterns_left c.loop-pattern.pattern-iterator) pattern
    (allowed (loads_in c.args.deck.now) c.args.notes.now c.args.location.number) (matching_at pattern pattern.d_from)
    c.loop-pattern.invariant.split c.in-Some.ensures.steps c.loop-pattern.invariant.inside
    (first_in_pattern IsOutside pattern pattern.d_from (omega arith) pattern.ordered
    (λ k low high. absurd (omega (arith, low, high)))
    (ap (λ (op : ℕ). is_some (op_of op)) (matching_op pattern) ∙ found)))

pub loop-pattern-preserved : goal.loop-pattern-preserved
loop-pattern-preserved c =
    let pattern = c.in-Some.pattern in
    let found : is_some (op_of pattern.op) ≡ true =
    sym (ap (λ (op : Option Op). is_some op) c.of.ensures.listed) ∙ c.is_none.ensures ∙ ap not c.if-is_none.false in
    let inside : ¬ (is_some (op_of pattern.op) ≡ false) = λ none. apart (sym found ∙ none) in
    record {
      split =
          patterns_taken c.loop-pattern.yielded (patterns_left c.loop-pattern.pattern-iterator)
          (patterns_left c.next.new.self) pattern
          (allowed (loads_in c.args.deck.now) c.args.notes.now c.args.location.number) c.loop-pattern.invariant.split
          c.in-Some.ensures.steps;
      inside = none_in_more IsOutside c.loop-pattern.yielded pattern c.loop-pattern.invariant.inside
          (none_in_pattern IsOutside pattern
          (λ k low high none. inside (sym (ap (λ (op : ℕ). is_some (op_of op)) (matching_op pattern)) ∙ none)));
    }
