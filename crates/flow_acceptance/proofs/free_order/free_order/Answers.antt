-- Of free_order: an order of the graph is one of the nodes; and without calls their locations are an
-- order of the executed ones.
use Rattle.std.proofs.Common.{ℕ, List, map, Contains, sym, ap, ◌∙◌, subst, arith}
use Rattle.read_decks.specs.InDeck.{loads_in, start_in}
use Rattle.base_graphs.specs.Graph.{row, size, IsTopologicalOrder}
use Rattle.flow_graph.specs.Flow.{deck_of, executed_in, nodes_of, notes_of}
use Rattle.flow_graph.specs.Hops.{Node}
use Rattle.flow_acceptance.specs.Free.{those_at, IsFreeOrder}
use Rattle.flow_acceptance.proofs.Plain.{order_plain}
use Rattle.flow_acceptance.proofs.Translations.{order_free}
use Rattle.flow_acceptance.proofs.free_order.free_order.Goals as goal

pub locations_at-requires : goal.locations_at-requires
locations_at-requires c index there =
    let order : IsTopologicalOrder (row c.in_ok-graph.graph) (size c.in_ok-graph.graph) c.in-Ordered.nodes.items =
    rw c.in-Ordered.is at c.in_ok-nodes.ensures in
    let member : Contains c.in-Ordered.nodes.items index =
    subst (λ (nodes : List ℕ). Contains nodes index) c.deref.ensures.value there in
    omega (arith, order.within index member, c.in_ok-graph.ensures.size)

pub returns-in-Ordered-clause-nodes : goal.returns-in-Ordered-clause-nodes
returns-in-Ordered-clause-nodes c =
    let flow = c.args.flow.now in
    let graph = c.in_ok-graph.graph in
    let order : IsTopologicalOrder (row graph) (size graph) c.in-Ordered.nodes.items =
    rw c.in-Ordered.is at c.in_ok-nodes.ensures in
    order_free (loads_in (deck_of flow)) (notes_of flow) (nodes_of flow) (row graph) c.in_ok-graph.ensures.rows
    (start_in (deck_of flow)) c.requires.nodes (size graph) c.in-Ordered.nodes.items c.in_ok-graph.ensures.size order

pub returns-in-Ordered-clause-order : goal.returns-in-Ordered-clause-order
returns-in-Ordered-clause-order c none =
    let flow = c.args.flow.now in
    let loads = loads_in (deck_of flow) in
    subst (IsFreeOrder loads (notes_of flow) (executed_in flow))
    (sym (c.in_ok-locations-in-Ordered.ensures
    ∙ ap (λ (ks : List ℕ). map (λ (node : Node). node.place) (those_at (nodes_of flow) ks)) c.deref.ensures.value))
    (order_plain loads (notes_of flow) none (start_in (deck_of flow)) (nodes_of flow)
    (those_at (nodes_of flow) c.in-Ordered.nodes.items) (executed_in flow) c.requires.nodes c.requires.found
    (returns-in-Ordered-clause-nodes c))

pub returns-in-Ordered-clause-within : goal.returns-in-Ordered-clause-within
returns-in-Ordered-clause-within c index there =
    let order : IsTopologicalOrder (row c.in_ok-graph.graph) (size c.in_ok-graph.graph) c.in-Ordered.nodes.items =
    rw c.in-Ordered.is at c.in_ok-nodes.ensures in
    omega (arith, order.within index there, c.in_ok-graph.ensures.size)
