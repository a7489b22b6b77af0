use Rattle.std.proofs.Common.{◌≡◌, ℕ, List, sym, ap, ◌∙◌}
use Rattle.std.specs.Prelude.{flat_map}
use Rattle.base_words.specs.declared.instruction.Instruction.{Instruction}
use Rattle.read_decks.specs.InDeck.{loads_in}
use Rattle.base_notes.specs.Allowed.{allowed, matching}
use Rattle.flow_graph.specs.declared.patterns.Patterns.{Patterns}
use Rattle.flow_graph.specs.Executed.{with_new}
use Rattle.flow_graph.specs.Patterns.{patterns_left}
use Rattle.flow_graph.proofs.Additions.{added_more}
use Rattle.check_findings.proofs.Outsides.{one_operation, outside_of}
use Rattle.check_findings.proofs.operations.operations_outside.Goals as goal

pub loop-pattern-init : goal.loop-pattern-init
loop-pattern-init c =
    let all : flat_map matching (patterns_left c.into_iter-pattern-iterator.result)
    ≡ allowed (loads_in c.args.deck.now) c.args.notes.now c.args.location.number =
    ap (λ (patterns : Patterns). flat_map matching (patterns_left patterns))
    c.into_iter-pattern-iterator.ensures.into_iter_gives ∙ c.at-pattern-items.ensures in
    ap (λ (instructions : List Instruction). with_new c.new-operations.result.items (flat_map outside_of instructions)) all
    ∙ ap (λ (xs : List ℕ). with_new xs (flat_map outside_of (allowed (loads_in c.args.deck.now) c.args.notes.now c.args.location.number)))
    c.new-operations.ensures.items

pub loop-pattern-preserved : goal.loop-pattern-preserved
loop-pattern-preserved c =
    let pattern = c.in-Some.pattern in
    let before = c.loop-pattern.operations.items in
    let rest = patterns_left c.next.new.self in
    ap (λ (xs : List ℕ). with_new xs (flat_map outside_of (flat_map matching rest)))
    (c.in_ok-add_operation.ensures ∙ sym (one_operation before pattern))
    ∙ sym (added_more outside_of before pattern (patterns_left c.loop-pattern.pattern-iterator) rest c.in-Some.ensures.steps)
    ∙ c.loop-pattern.invariant
