-- The nodes of a flow graph, as they are held: of each its location, and the index of what is open
-- there.
use Rattle.std.specs.Prelude.{◌≡◌, ℕ, ◌<◌, List, [], ◌++◌, length, map, slice_get, slice_index_or}
use Rattle.std.specs.Prelude.{Option, Some, Contains}
use Rattle.base_notes.specs.declared.notes.call.Call.{Call}
use Rattle.machine_steps.specs.declared.open.Open.{Open}
use Rattle.machine_steps.specs.OpenIn.{open_in}
use Rattle.base_graphs.specs.Graph.{AreDifferent}
use Rattle.flow_graph.specs.declared.node.Node as held
use Rattle.flow_graph.specs.declared.nodes.Nodes.{Nodes}
use Rattle.flow_graph.specs.Hops.{Node}

-- what is open by each index
abbrev pub ways_in : List Call → List Open → List (List (Option ℕ))
ways_in calls openings = map (λ opening. open_in opening calls) openings

-- a node that is held
abbrev pub node_of : List Call → List Open → held.Node → Node
node_of calls openings node = record {
  place = node.location.number;
  ways = slice_index_or (ways_in calls openings) node.opening [];
}

abbrev pub node_in : List Call → Nodes → held.Node → Node
node_in calls nodes node = node_of calls nodes.openings.items node

-- all of them, in order
abbrev pub nodes_in : List Call → Nodes → List Node
nodes_in calls nodes = map (node_of calls nodes.openings.items) nodes.nodes.keys.items

-- Each has what is open there, and no two of these are the same.
pub record AreHeld (calls : List Call) (nodes : Nodes) : Type 0 where
  pub within : (node : held.Node) → Contains nodes.nodes.keys.items node
      → node.opening < length nodes.openings.items
  pub different : AreDifferent (ways_in calls nodes.openings.items)

-- What is open has this index, where it was added unless it was there.
pub record ArePlacedIn (calls : List Call) (before after : List Open) (ways : List (Option ℕ))
    (index : ℕ) : Type 0 where
  pub here : slice_get (ways_in calls after) index ≡ Some ways
  pub more : List Open
  pub kept : after ≡ before ++ more
  pub different : AreDifferent (ways_in calls before) → AreDifferent (ways_in calls after)
