use Rattle.std.proofs.Common.{◌≡◌, List, sym, ap, ◌∙◌}
use Rattle.std.specs.Prelude.{flat_map}
use Rattle.std.specs.List.{list_any}
use Rattle.base_words.specs.declared.instruction.Instruction.{Instruction}
use Rattle.read_decks.specs.InDeck.{loads_in}
use Rattle.base_notes.specs.Allowed.{allowed, matching}
use Rattle.flow_graph.specs.declared.patterns.Patterns.{Patterns}
use Rattle.flow_graph.specs.Patterns.{patterns_left}
use Rattle.print_graphs.specs.GraphOf.{has_stop_by}
use Rattle.print_graphs.proofs.Stopping.{hops_stop, pattern_enough, pattern_passed}
use Rattle.print_graphs.proofs.stops.may_stop.Goals as goal

pub loop-pattern-init : goal.loop-pattern-init
loop-pattern-init c =
    let notes = c.args.notes.now in
    let instructions : List Instruction = allowed (loads_in c.args.deck.now) notes c.args.location.number in
    let all : flat_map matching (patterns_left c.into_iter-pattern-iterator.result) ≡ instructions =
    ap (λ (patterns : Patterns). flat_map matching (patterns_left patterns))
    c.into_iter-pattern-iterator.ensures.into_iter_gives ∙ c.at-pattern-items.ensures in
    ap (list_any (has_stop_by notes)) all ∙ sym (hops_stop notes instructions)

pub returns-then-pattern_may_stop : goal.returns-then-pattern_may_stop
returns-then-pattern_may_stop c =
    let notes = c.args.notes.now in
    sym (pattern_enough (has_stop_by notes) (patterns_left c.loop-pattern.pattern-iterator)
    (patterns_left c.next.new.self) c.in-Some.pattern c.in-Some.ensures.steps
    (sym c.pattern_may_stop.ensures ∙ c.if-pattern_may_stop.true)) ∙ c.loop-pattern.invariant

pub loop-pattern-preserved : goal.loop-pattern-preserved
loop-pattern-preserved c =
    let notes = c.args.notes.now in
    sym (pattern_passed (has_stop_by notes) (patterns_left c.loop-pattern.pattern-iterator)
    (patterns_left c.next.new.self) c.in-Some.pattern c.in-Some.ensures.steps
    (sym c.pattern_may_stop.ensures ∙ c.if-pattern_may_stop.false)) ∙ c.loop-pattern.invariant
