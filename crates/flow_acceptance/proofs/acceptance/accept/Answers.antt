-- Of accept: the executed locations of an accepted flow are all that are found.
use Rattle.std.proofs.Common.{sym, subst}
use Rattle.read_decks.specs.InDeck.{loads_in, start_in}
use Rattle.flow_graph.specs.declared.flow_graph.Flow.{Flow}
use Rattle.flow_graph.specs.Flow.{deck_of, executed_in, notes_of, of_flow, AreFound}
use Rattle.flow_graph.proofs.Orders.{order_found}
use Rattle.flow_acceptance.proofs.Acceptances.{moved}
use Rattle.flow_acceptance.proofs.acceptance.accept.Goals as goal

pub returns-clause-found : goal.returns-clause-found
returns-clause-found c =
    let flow = c.in_ok-of.field-0.flow in
    let deck = c.args.deck.now in
    let notes = c.args.notes.now in
    let executed = executed_in flow in
    subst (λ (one : Flow). of_flow AreFound one (executed_in one)) (sym c.into_flow.ensures)
    (moved (λ d n. AreFound (loads_in d) n (start_in d) executed) deck (deck_of flow) notes (notes_of flow)
    (sym c.in_ok-of.ensures.deck) (sym c.in_ok-of.ensures.notes)
    (order_found (loads_in deck) notes (start_in deck) executed c.in_ok-of.ensures.accepted.admitted.order))
