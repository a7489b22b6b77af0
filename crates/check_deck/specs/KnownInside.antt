-- What is known of which loops stand inside which others, as it is held.
use Rattle.std.specs.Prelude.{◌≡◌, ◌↔◌, All, IsTrue, length}
use Rattle.read_decks.specs.InDeck.{loads_in}
use Rattle.base_notes.specs.EdgeOf.{edge_of}
use Rattle.base_graphs.specs.declared.graph.Graph.{Graph}
use Rattle.base_graphs.specs.Graph.{row, size}
use Rattle.flow_graph.specs.declared.flow_graph.Flow.{Flow}
use Rattle.flow_graph.specs.Executed.{AreAllNodes}
use Rattle.flow_graph.specs.Flow.{nodes_of, of_flow}
use Rattle.flow_loops.specs.Links.{AreLinkRows}
use Rattle.check_deck.specs.declared.nesting.Known.{Known}
use Rattle.check_deck.specs.declared.nesting.Nesting.{Nesting}
use Rattle.check_deck.specs.FindingsOf.{IsInsideIn}

-- it is right
abbrev pub IsKnown : Flow → Known → Type 0
IsKnown flow known =
    IsTrue known.stands ↔ IsInsideIn flow (edge_of known.outer) (edge_of known.inner)

-- The graph is that of all links of a flow graph, with all nodes.
pub record AreLinksOf (flow : Flow) (graph : Graph) : Type 0 where
  pub nodes : of_flow AreAllNodes flow (nodes_of flow)
  pub size : size graph ≡ length (nodes_of flow)
  pub rows : AreLinkRows (loads_in flow.deck.now) flow.notes.now (nodes_of flow) (row graph)

-- so is all that is held
pub record AreKnown (nesting : Nesting) : Type 0 where
  pub links : AreLinksOf nesting.flow.now nesting.graph
  pub known : All (IsKnown nesting.flow.now) nesting.known.items
