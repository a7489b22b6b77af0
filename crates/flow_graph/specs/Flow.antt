-- What a flow is of: a deck, its notes, and the executed locations.
use Rattle.std.specs.Prelude.{ℕ, List, Option, Contains}
use Rattle.read_decks.specs.declared.deck.Deck.{Deck}
use Rattle.base_words.specs.declared.word.Word.{Word}
use Rattle.read_decks.specs.InDeck.{loads_in, start_in}
use Rattle.base_notes.specs.Allowed.{Notes}
use Rattle.flow_graph.specs.declared.flow_graph.Flow.{Flow}
use Rattle.flow_graph.specs.Accepted.{IsGood}
use Rattle.flow_graph.specs.Executed.{IsOrder}
use Rattle.flow_graph.specs.Found.{places_of}
use Rattle.flow_graph.specs.InNodes.{nodes_in}
use Rattle.flow_graph.specs.Hops.{IsExecuted, Node}

-- the deck and the notes that a flow is of
abbrev pub deck_of : Flow → Deck
deck_of flow = flow.deck.now

abbrev pub notes_of : Flow → Notes
notes_of flow = flow.notes.now

-- something said of loads, notes and a start, as it is said of a flow: of what its deck loads, of
-- its notes, and of its deck's start
abbrev pub of_flow {ℓ} : {X : Type ℓ} → ((ℕ → Option Word) → Notes → ℕ → X) → Flow → X
of_flow says flow = says (loads_in flow.deck.now) flow.notes.now (start_in flow.deck.now)

-- the executed locations, in the order of discovery
abbrev pub executed_in : Flow → List ℕ
executed_in flow = places_of flow.executed

-- the nodes of the flow graph, in the order of discovery
abbrev pub nodes_of : Flow → List Node
nodes_of flow = nodes_in flow.notes.now.calls flow.nodes

-- These are the executed locations in the order of discovery.
pub record AreFound (loads : ℕ → Option Word) (notes : Notes) (start : ℕ)
    (places : List ℕ) : Type 0 where
  pub order : IsOrder loads notes start places
  pub all : (place : ℕ) → IsExecuted loads notes start place → Contains places place
  pub only : (place : ℕ) → Contains places place → IsExecuted loads notes start place

-- These are the executed locations in the order of discovery, all of them loaded or listed, with
-- operations in the profile alone.
pub record AreExecuted (loads : ℕ → Option Word) (notes : Notes) (start : ℕ)
    (places : List ℕ) : Type 0 where
  pub found : AreFound loads notes start places
  pub good : (place : ℕ) → Contains places place → IsGood loads notes place
