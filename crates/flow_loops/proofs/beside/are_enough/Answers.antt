use Rattle.std.proofs.Common.{map, ◌∙◌, arith}
use Rattle.read_decks.specs.InDeck.{loads_in, start_in}
use Rattle.base_notes.specs.EdgeOf.{edge_of}
use Rattle.base_graphs.specs.Graph.{row, size, IsCycle, IsTopologicalOrder}
use Rattle.flow_graph.specs.Flow.{nodes_of}
use Rattle.flow_loops.proofs.Besides.{cycle_lacks, order_enough}
use Rattle.flow_loops.proofs.beside.are_enough.Goals as goal

pub returns-in-Ordered-clause-enough : goal.returns-in-Ordered-clause-enough
returns-in-Ordered-clause-enough c is_true =
    let flow = c.args.flow.now in
    let graph = c.args.graph.now in
    let rest = c.in_ok-rest.rest in
    let order : IsTopologicalOrder (row rest) (size rest) c.in-Ordered.field-0.items =
    rw c.in-Ordered.is at c.in_ok-sort.ensures in
    order_enough (loads_in flow.deck.now) flow.notes.now (start_in flow.deck.now) (nodes_of flow) (row graph) (row rest)
    (size rest) (map edge_of c.args.edges.now) c.requires.nodes c.requires.rows
    (c.in_ok-rest.ensures.long ∙ c.requires.size)
    (λ k below. c.in_ok-rest.ensures.rows k (omega (arith, below, c.in_ok-rest.ensures.long)))
    c.in-Ordered.field-0.items order

pub returns-clause-lacks : goal.returns-clause-lacks
returns-clause-lacks c is_false =
    let flow = c.args.flow.now in
    let graph = c.args.graph.now in
    let rest = c.in_ok-rest.rest in
    let cycle : IsCycle (row rest) (size rest) c.in-Cyclic.field-0.items =
    rw c.in-Cyclic.is at c.in_ok-sort.ensures in
    cycle_lacks (loads_in flow.deck.now) flow.notes.now (start_in flow.deck.now) (nodes_of flow) (row graph) (row rest)
    (size rest) (map edge_of c.args.edges.now) c.requires.nodes c.requires.rows
    (c.in_ok-rest.ensures.long ∙ c.requires.size)
    (λ k below. c.in_ok-rest.ensures.rows k (omega (arith, below, c.in_ok-rest.ensures.long)))
    c.in-Cyclic.field-0.items cycle
