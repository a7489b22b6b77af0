use Rattle.std.proofs.Common.{◌≡◌, ℕ, List, ap, sym, ◌∙◌, subst, arith}
use Rattle.std.specs.Prelude.{Contains, IsTrue, ◌↔◌}
use Rattle.read_decks.specs.declared.deck.Deck.{Deck}
use Rattle.read_decks.specs.InDeck.{start_in}
use Rattle.base_graphs.specs.Graph.{row}
use Rattle.flow_loops.specs.Closing.{places_in}
use Rattle.flow_loops.specs.Reached.{HasSuch, IsAt, LeadsPast, LeadsToSuch, nodes_in}
use Rattle.flow_loops.proofs.Suches.{not_so, such_said}
use Rattle.flow_loops.proofs.nesting.is_entered_by.Goals as goal

pub one_is_at-requires : goal.one_is_at-requires
one_is_at-requires c node there =
    let inside = c.in_ok-reached.ensures.within node
    (subst (λ (nodes : List ℕ). Contains nodes node) c.deref.ensures.value there) in
    omega (arith, inside, c.requires.size)

pub returns : goal.returns
returns c =
    let flow = c.args.flow.now in
    let graph = row c.args.graph.now in
    let places = places_in flow in
    let head = c.args.head.number in
    let IsThere : ℕ → Type 0 = IsAt places c.args.location.number in
    let start : c.number.result ≡ start_in flow.deck.now =
    c.number.ensures ∙ c.start.ensures.held ∙ ap (λ (deck : Deck). start_in deck) c.deck.ensures in
    not_so c.one_is_at.result (start_in flow.deck.now ≡ head) (LeadsToSuch graph places head 0 IsThere)
    (λ same. c.if-number.false (start ∙ same ∙ sym c.number-2.ensures))
    (such_said IsThere (LeadsPast graph places head 0) (nodes_in c.in_ok-reached.reached) c.in_ok-reached.ensures.reached
    c.one_is_at.result
    (subst (λ (nodes : List ℕ). IsTrue c.one_is_at.result ↔ HasSuch IsThere nodes) c.deref.ensures.value
    c.one_is_at.ensures))
