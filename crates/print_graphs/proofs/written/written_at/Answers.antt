use Rattle.std.proofs.Common.{◌≡◌, ℕ, List, sym, ap, ◌∙◌}
use Rattle.std.specs.Prelude.{flat_map}
use Rattle.read_decks.specs.declared.deck.Deck.{Deck}
use Rattle.base_words.specs.declared.instruction.Instruction.{Instruction}
use Rattle.read_decks.specs.InDeck.{loads_in}
use Rattle.base_notes.specs.Allowed.{Notes, allowed, matching}
use Rattle.flow_graph.specs.declared.patterns.Patterns.{Patterns}
use Rattle.flow_graph.specs.Executed.{with_new}
use Rattle.flow_graph.specs.Flow.{executed_in}
use Rattle.flow_graph.specs.Found.{places_of}
use Rattle.flow_graph.specs.Patterns.{patterns_left}
use Rattle.flow_graph.proofs.Additions.{added_more}
use Rattle.print_graphs.specs.Graph.{executed_writes}
use Rattle.print_graphs.proofs.written.written_at.Goals as goal

pub loop-pattern-init : goal.loop-pattern-init
loop-pattern-init c =
    let flow = c.args.flow.now in
    let adds : Instruction → List ℕ = executed_writes (executed_in flow) in
    let all : flat_map matching (patterns_left c.into_iter-pattern-iterator.result)
    ≡ allowed (loads_in flow.deck.now) flow.notes.now c.args.location.number =
    ap (λ (patterns : Patterns). flat_map matching (patterns_left patterns))
    c.into_iter-pattern-iterator.ensures.into_iter_gives ∙ c.at-pattern-items.ensures
    ∙ ap (λ (deck : Deck). allowed (loads_in deck) c.notes.result.now c.args.location.number) c.deck.ensures
    ∙ ap (λ (notes : Notes). allowed (loads_in flow.deck.now) notes c.args.location.number) c.notes.ensures in
    ap (λ (instructions : List Instruction). with_new (places_of c.none-written.result) (flat_map adds instructions)) all
    ∙ ap (λ (xs : List ℕ). with_new xs (flat_map adds (allowed (loads_in flow.deck.now) flow.notes.now c.args.location.number)))
    c.none-written.ensures

pub loop-pattern-preserved : goal.loop-pattern-preserved
loop-pattern-preserved c =
    let flow = c.args.flow.now in
    let adds : Instruction → List ℕ = executed_writes (executed_in flow) in
    let rest = patterns_left c.next.new.self in
    ap (λ (places : List ℕ). with_new places (flat_map adds (flat_map matching rest))) c.in_ok-add_written_in.ensures
    ∙ sym (added_more adds (places_of c.loop-pattern.written) c.in-Some.pattern
    (patterns_left c.loop-pattern.pattern-iterator) rest c.in-Some.ensures.steps) ∙ c.loop-pattern.invariant
