use Rattle.base_devices.proofs.Handed.{handed}
use Rattle.read_decks.specs.InDeck.{loads_in, start_in}
use Rattle.flow_graph.specs.Accepted.{IsAdmitted}
use Rattle.flow_graph.specs.Flow.{deck_of, executed_in, nodes_of, notes_of}
use Rattle.flow_acceptance.specs.Acceptance.{IsAdmissionRefusal}
use Rattle.flow_acceptance.specs.Free.{those_at}
use Rattle.flow_acceptance.proofs.Acceptances.{is_admitted, moved, not_admitted}
use Rattle.flow_acceptance.proofs.ordered_flow.OrderedFlow.of_any_size.Goals as goal

pub returns-in_err-order-clause-refused : goal.returns-in_err-order-clause-refused
returns-in_err-order-clause-refused c =
    let flow = c.in_ok-flow.flow in
    let deck = (deck_of flow) in
    let notes = (notes_of flow) in
    let refusal = c.in_err-order.field-0.0 in
    handed c.from_residual-in_err-order.result _ refusal c.from_residual-in_err-order.ensures.1
    (moved (λ d n. IsAdmissionRefusal (loads_in d) n (start_in d) refusal) deck c.args.deck.now notes c.args.notes.now
    c.in_ok-flow.ensures.deck c.in_ok-flow.ensures.notes
    (not_admitted (loads_in deck) notes (start_in deck) (executed_in flow) c.in_ok-flow.ensures.executed
    c.in_ok-flow.ensures.unaltered refusal c.in_err-order.ensures.cycle))

pub returns-clause-admitted : goal.returns-clause-admitted
returns-clause-admitted c =
    let flow = c.in_ok-flow.flow in
    let deck = (deck_of flow) in
    let notes = (notes_of flow) in
    moved (λ d n. IsAdmitted (loads_in d) n (start_in d) (executed_in flow)) deck c.args.deck.now notes c.args.notes.now
    c.in_ok-flow.ensures.deck c.in_ok-flow.ensures.notes
    (is_admitted (loads_in deck) notes (start_in deck) (executed_in flow) c.in_ok-flow.ensures.executed
    c.in_ok-flow.ensures.unaltered (nodes_of flow)
    (those_at (nodes_of flow) c.in_ok-order.order.nodes.items) c.in_ok-flow.ensures.nodes
    c.in_ok-flow.ensures.few c.in_ok-order.ensures.nodes)
