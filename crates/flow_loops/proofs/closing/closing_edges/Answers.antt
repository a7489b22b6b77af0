-- Of closing_edges: the edges that lead back are enough; where none of them also goes on, each is needed.
use Rattle.std.proofs.Common.{◌≡◌, ℕ, List, map, sym, ◌∙◌, subst, arith}
use Rattle.std.specs.Prelude.{Contains}
use Rattle.read_decks.specs.InDeck.{loads_in, start_in}
use Rattle.base_notes.specs.EdgeOf.{edge_of}
use Rattle.base_graphs.specs.Graph.{row, size}
use Rattle.flow_graph.specs.Flow.{executed_in, nodes_of}
use Rattle.flow_loops.specs.Closing.{places_in}
use Rattle.flow_loops.specs.Ranks.{AreRanks}
use Rattle.flow_loops.specs.Spared.{AreOneWay}
use Rattle.flow_loops.proofs.Closings.{clear, closes, enough}
use Rattle.flow_loops.proofs.closing.closing_edges.Goals as goal

pub ranks_in-requires-clause-within : goal.ranks_in-requires-clause-within
ranks_in-requires-clause-within c node there =
    let member : Contains c.in_ok-order.order.items node =
    subst (λ (nodes : List ℕ). Contains nodes node) c.deref.ensures.value there in
    omega (arith, c.in_ok-order.ensures.within node member, c.size.ensures)

pub returns-then-branch : goal.returns-then-branch
returns-then-branch c =
    let flow = c.args.flow.now in
    let loads = loads_in flow.deck.now in
    let start = start_in flow.deck.now in
    let graph = c.in_ok-graph.graph in
    let order = c.in_ok-order.order.items in
    let ranks = c.deref-2.result.now in
    let edges = map edge_of c.in_ok-edges.edges.items in
    let ordered : c.deref.result.now ≡ order = c.deref.ensures.value in
    let ranked : AreRanks order ranks =
    subst (λ (nodes : List ℕ). AreRanks nodes ranks) ordered
    (subst (AreRanks c.deref.result.now) (sym c.deref-2.ensures.value) c.in_ok-ranks.ensures.ranks) in
    let one_way : AreOneWay (row graph) ranks (places_in flow) (size graph) (executed_in flow) =
    subst (λ (all : List ℕ). AreOneWay (row graph) all (places_in flow) (size graph) (executed_in flow))
    (c.deref-3.ensures.value ∙ sym c.deref-2.ensures.value) (c.in_ok-are_one_way.ensures c.if-branch.true) in
    closes loads flow.notes.now start (nodes_of flow) (executed_in flow) (row graph) (size graph) order ranks edges
    c.requires.nodes c.requires.found c.in_ok-graph.ensures.rows c.in_ok-graph.ensures.size c.in_ok-order.ensures ranked
    c.in_ok-edges.ensures
    (clear loads flow.notes.now start (nodes_of flow) (executed_in flow) (row graph) (size graph) order ranks edges
    c.requires.nodes c.requires.found c.in_ok-graph.ensures.rows c.in_ok-graph.ensures.size c.in_ok-order.ensures ranked
    c.in_ok-edges.ensures one_way)

pub only_needed-requires-clause-enough : goal.only_needed-requires-clause-enough
only_needed-requires-clause-enough c =
    let flow = c.args.flow.now in
    let graph = c.in_ok-graph.graph in
    let order = c.in_ok-order.order.items in
    let ranks = c.deref-2.result.now in
    let ranked : AreRanks order ranks =
    subst (λ (nodes : List ℕ). AreRanks nodes ranks) c.deref.ensures.value
    (subst (AreRanks c.deref.result.now) (sym c.deref-2.ensures.value) c.in_ok-ranks.ensures.ranks) in
    enough (loads_in flow.deck.now) flow.notes.now (start_in flow.deck.now) (nodes_of flow) (executed_in flow)
    (row graph) (size graph) order ranks (map edge_of c.in_ok-edges.edges.items) c.requires.nodes c.requires.found
    c.in_ok-graph.ensures.rows c.in_ok-graph.ensures.size c.in_ok-order.ensures ranked c.in_ok-edges.ensures
