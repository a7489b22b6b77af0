use Rattle.std.proofs.Common.{◌≡◌, map, take}
use Rattle.read_decks.specs.InDeck.{loads_in}
use Rattle.flow_graph.specs.Flow.{executed_in, nodes_of}
use Rattle.print_graphs.specs.Graph as said
use Rattle.print_graphs.specs.GraphOf.{node_of}
use Rattle.print_graphs.proofs.graph.Graph.nodes_of.Given as goal

-- the nodes of the locations so far
abbrev pub invariant-loop-location : goal.invariant-loop-location
invariant-loop-location l =
    map node_of l.nodes.items
    ≡ map (said.node (loads_in l.flow.deck.now) l.flow.notes.now (nodes_of l.flow))
    (take l.location-index (executed_in l.flow))
