-- Of operations_at: all instructions of a pattern have its operation, so adding this once does what
-- adding each of theirs would. What was added so far and what is left make up the definition's
-- list.
use Rattle.std.proofs.Common.{◌≡◌, ℕ, List, [], sym, ap, ◌∙◌}
use Rattle.std.specs.Prelude.{flat_map}
use Rattle.base_words.specs.declared.instruction.Instruction.{Instruction}
use Rattle.read_decks.specs.InDeck.{loads_in}
use Rattle.base_notes.specs.Allowed.{allowed, matching}
use Rattle.flow_graph.specs.declared.patterns.Patterns.{Patterns}
use Rattle.flow_graph.specs.Executed.{with_new}
use Rattle.flow_graph.specs.Patterns.{patterns_left}
use Rattle.flow_graph.proofs.Additions.{added_more}
use Rattle.print_graphs.proofs.PatternOperations.{all_alone, one_operation, op_alone}
use Rattle.print_graphs.proofs.operations.operations_at.Goals as goal

pub loop-pattern-init : goal.loop-pattern-init
loop-pattern-init c =
    let instructions : List Instruction = allowed (loads_in c.args.deck.now) c.args.notes.now c.args.location.number in
    let all : flat_map matching (patterns_left c.into_iter-pattern-iterator.result) ≡ instructions =
    ap (λ (patterns : Patterns). flat_map matching (patterns_left patterns))
    c.into_iter-pattern-iterator.ensures.into_iter_gives ∙ c.at-pattern-items.ensures in
    ap (λ (some : List Instruction). with_new c.new-operations.result.items (flat_map op_alone some)) all
    ∙ ap (λ (xs : List ℕ). with_new xs (flat_map op_alone instructions)) c.new-operations.ensures.items
    ∙ ap (with_new []) (all_alone instructions)

pub loop-pattern-preserved : goal.loop-pattern-preserved
loop-pattern-preserved c =
    let pattern = c.in-Some.pattern in
    let before = c.loop-pattern.operations.items in
    let rest = patterns_left c.next.new.self in
    ap (λ (xs : List ℕ). with_new xs (flat_map op_alone (flat_map matching rest)))
    (c.in_ok-add_operation.ensures ∙ sym (one_operation before pattern))
    ∙ sym (added_more op_alone before pattern (patterns_left c.loop-pattern.pattern-iterator) rest c.in-Some.ensures.steps)
    ∙ c.loop-pattern.invariant
