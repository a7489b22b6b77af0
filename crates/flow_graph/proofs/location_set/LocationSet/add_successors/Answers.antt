use Rattle.std.proofs.Common.{◌≡◌, List, ℕ, sym, ap, ◌∙◌}
use Rattle.std.specs.Prelude.{flat_map}
use Rattle.base_words.specs.declared.instruction.Instruction.{Instruction}
use Rattle.read_decks.specs.InDeck.{loads_in}
use Rattle.base_notes.specs.Allowed.{allowed, matching}
use Rattle.flow_graph.specs.declared.patterns.Patterns.{Patterns}
use Rattle.flow_graph.specs.Executed.{with_new}
use Rattle.machine_steps.specs.Ways.{ways}
use Rattle.flow_graph.specs.Found.{places_of, targets_of, targets_by}
use Rattle.flow_graph.specs.Patterns.{patterns_left}
use Rattle.flow_graph.proofs.Additions.{added_more, successors_by}
use Rattle.flow_graph.proofs.location_set.LocationSet.add_successors.Goals as goal

pub loop-pattern-init : goal.loop-pattern-init
loop-pattern-init c =
    let loads = loads_in c.args.deck.now in
    let notes = c.args.notes.now in
    let before = places_of c.args.self.now in
    let all : flat_map matching (patterns_left c.into_iter-pattern-iterator.result)
    ≡ allowed loads notes c.args.location.number =
    ap (λ (patterns : Patterns). flat_map matching (patterns_left patterns))
    c.into_iter-pattern-iterator.ensures.into_iter_gives ∙ c.at-pattern-items.ensures in
    ap (λ (instructions : List Instruction). with_new before (targets_by notes instructions)) all
    ∙ ap (with_new before) (successors_by loads notes c.args.location.number)

pub loop-pattern-preserved : goal.loop-pattern-preserved
loop-pattern-preserved c =
    let notes = c.args.notes.now in
    let rest = patterns_left c.next.new.self in
    ap (λ (places : List ℕ). with_new places (targets_by notes (flat_map matching rest))) c.in_ok-add_pattern.ensures
    ∙ sym (added_more (λ one. targets_of (ways notes one)) (places_of c.loop-pattern.self) c.in-Some.pattern
    (patterns_left c.loop-pattern.pattern-iterator) rest c.in-Some.ensures.steps) ∙ c.loop-pattern.invariant
