use Rattle.std.proofs.Common.{map, sym, ◌∙◌, ap}
use Rattle.read_decks.specs.declared.deck.Deck.{Deck}
use Rattle.read_decks.specs.InDeck.{loads_in, start_in}
use Rattle.base_notes.specs.Allowed.{Notes}
use Rattle.flow_graph.specs.Executed.{AreAllNodes}
use Rattle.flow_graph.specs.Flow.{executed_in, nodes_of, AreFound}
use Rattle.flow_acceptance.proofs.Acceptances.{moved}
use Rattle.print_graphs.specs.Graph.{AreNodes, node}
use Rattle.print_graphs.specs.GraphOf.{node_of}
use Rattle.print_graphs.proofs.Taken.{places_same}
use Rattle.print_graphs.proofs.graph.Graph.of.Goals as goal

pub returns-clause-nodes : goal.returns-clause-nodes
returns-clause-nodes c =
    let flow = c.in_ok-flow.flow in
    let nodes = map node_of c.in_ok-nodes_of.field-0.items in
    let deck = c.in_ok-flow.ensures.deck in
    let notes = c.in_ok-flow.ensures.notes in
    let reached = moved (λ (some : Deck) (ns : Notes). AreAllNodes (loads_in some) ns (start_in some) (nodes_of flow))
    c.args.deck.now flow.deck.now c.args.notes.now flow.notes.now (sym deck) (sym notes) c.in_ok-flow.ensures.nodes in
    let found = moved (λ (some : Deck) (ns : Notes). AreFound (loads_in some) ns (start_in some) (executed_in flow))
    c.args.deck.now flow.deck.now c.args.notes.now flow.notes.now (sym deck) (sym notes) c.in_ok-flow.ensures.found in
    let places = places_same (loads_in flow.deck.now) flow.notes.now (start_in flow.deck.now) (nodes_of flow)
    (executed_in flow) reached found in
    moved (λ (some : Deck) (ns : Notes). AreNodes (loads_in some) ns (start_in some) nodes)
    flow.deck.now c.args.deck.now flow.notes.now c.args.notes.now deck notes record {
      reached = nodes_of flow;
      found = reached;
      all = c.in_ok-nodes_of.ensures
          ∙ ap (map (node (loads_in flow.deck.now) flow.notes.now (nodes_of flow))) (sym places);
    }

pub nodes_of-requires-clause-places : goal.nodes_of-requires-clause-places
nodes_of-requires-clause-places c =
    let flow = c.in_ok-flow.flow in
    let deck = c.in_ok-flow.ensures.deck in
    let notes = c.in_ok-flow.ensures.notes in
    places_same (loads_in flow.deck.now) flow.notes.now (start_in flow.deck.now) (nodes_of flow) (executed_in flow)
    (moved (λ (some : Deck) (ns : Notes). AreAllNodes (loads_in some) ns (start_in some) (nodes_of flow))
    c.args.deck.now flow.deck.now c.args.notes.now flow.notes.now (sym deck) (sym notes) c.in_ok-flow.ensures.nodes)
    (moved (λ (some : Deck) (ns : Notes). AreFound (loads_in some) ns (start_in some) (executed_in flow))
    c.args.deck.now flow.deck.now c.args.notes.now flow.notes.now (sym deck) (sym notes) c.in_ok-flow.ensures.found)
