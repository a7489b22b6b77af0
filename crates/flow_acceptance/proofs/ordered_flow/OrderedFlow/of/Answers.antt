-- Of OrderedFlow::of: the flow is of this deck and these notes, so what is shown of the flow's
-- deck holds of the argument's (moved): that it is too large, that edges free of marks lead round,
-- or that it is accepted, with its order.
use Rattle.std.proofs.Common.{◌≡◌, List, ◌∷◌, length, refl, ap, sym, ◌∙◌, arith, []}
use Rattle.std.specs.Prelude.{◌==◌}
use Rattle.std.proofs.lemmas.Bool.{eqb-true}
use Rattle.base_devices.proofs.Handed.{handed}
use Rattle.read_decks.specs.InDeck.{loads_in, start_in}
use Rattle.base_notes.specs.declared.notes.call.Call.{Call}
use Rattle.base_notes.specs.Allowed.{Notes}
use Rattle.flow_graph.specs.Accepted.{IsAccepted}
use Rattle.flow_graph.specs.Flow.{deck_of, executed_in, nodes_of, notes_of}
use Rattle.flow_graph.proofs.Founds.{numbers}
use Rattle.flow_acceptance.specs.Acceptance.{IsRefusal}
use Rattle.flow_acceptance.specs.Free.{those_at, IsFreeOrder}
use Rattle.flow_acceptance.proofs.Acceptances.{is_admitted, moved, too_much, unbounded}
use Rattle.flow_acceptance.proofs.ordered_flow.OrderedFlow.of.Goals as goal

pub returns-in_err-check_small-clause-refused : goal.returns-in_err-check_small-clause-refused
returns-in_err-check_small-clause-refused c =
    let flow = c.in_ok-flow.flow in
    let deck = (deck_of flow) in
    let notes = (notes_of flow) in
    let refusal = c.in_err-check_small.field-0.0 in
    handed c.from_residual-in_err-check_small.result _ refusal c.from_residual-in_err-check_small.ensures.1
    (moved (λ d n. IsRefusal (loads_in d) n (start_in d) refusal) deck c.args.deck.now notes c.args.notes.now
    c.in_ok-flow.ensures.deck c.in_ok-flow.ensures.notes
    (too_much (loads_in deck) notes (start_in deck) (executed_in flow) c.in_ok-flow.ensures.executed
    c.in_ok-flow.ensures.unaltered refusal c.in_err-check_small.ensures.large))

pub returns-in_err-order-clause-refused : goal.returns-in_err-order-clause-refused
returns-in_err-order-clause-refused c =
    let flow = c.in_ok-flow.flow in
    let deck = (deck_of flow) in
    let notes = (notes_of flow) in
    let refusal = c.in_err-order.field-0.0 in
    handed c.from_residual-in_err-order.result _ refusal c.from_residual-in_err-order.ensures.1
    (moved (λ d n. IsRefusal (loads_in d) n (start_in d) refusal) deck c.args.deck.now notes c.args.notes.now
    c.in_ok-flow.ensures.deck c.in_ok-flow.ensures.notes
    (unbounded (loads_in deck) notes (start_in deck) (executed_in flow) c.in_ok-flow.ensures.executed
    c.in_ok-flow.ensures.unaltered c.in_ok-check_small.ensures.small refusal c.in_err-order.ensures.cycle))

-- the notes have no calls
no_calls : (c : goal.In_ok-order) → c.args.notes.now.calls ≡ []
no_calls c =
    let calls = c.calls.result.now in
    let empty : c.is_empty.result ≡ (length calls == 0) = c.is_empty.ensures in
    let all : calls ≡ c.args.notes.now.calls = c.calls.ensures.all in
    sym all ∙ none calls (eqb-true (length calls) 0 (sym empty ∙ c.if-not-is_empty.false))
  where
    none : (calls : List Call) → length calls ≡ 0 → calls ≡ []
    none [] long = refl
    none (call ∷ calls) long = absurd (omega (arith, long))

pub returns-clause-accepted : goal.returns-clause-accepted
returns-clause-accepted c =
    let flow = c.in_ok-flow.flow in
    let deck = (deck_of flow) in
    let notes = (notes_of flow) in
    moved (λ d n. IsAccepted (loads_in d) n (start_in d) (executed_in flow)) deck c.args.deck.now notes c.args.notes.now
    c.in_ok-flow.ensures.deck c.in_ok-flow.ensures.notes
    (record {
      admitted = is_admitted (loads_in deck) notes (start_in deck) (executed_in flow) c.in_ok-flow.ensures.executed
          c.in_ok-flow.ensures.unaltered (nodes_of flow)
          (those_at (nodes_of flow) c.in_ok-order.order.nodes.items) c.in_ok-flow.ensures.nodes
          c.in_ok-flow.ensures.few c.in_ok-order.ensures.nodes;
      small = c.in_ok-check_small.ensures.small;
      plain = ap (λ (n : Notes). n.calls) c.in_ok-flow.ensures.notes ∙ no_calls c;
    })

pub returns-clause-order : goal.returns-clause-order
returns-clause-order c =
    let flow = c.in_ok-flow.flow in
    moved (λ d n. IsFreeOrder (loads_in d) n (executed_in flow) (numbers c.in_ok-order.order.locations.items))
    (deck_of flow)
    c.args.deck.now (notes_of flow) c.args.notes.now
    c.in_ok-flow.ensures.deck c.in_ok-flow.ensures.notes
    (c.in_ok-order.ensures.order (ap (λ (n : Notes). n.calls) c.in_ok-flow.ensures.notes ∙ no_calls c))
