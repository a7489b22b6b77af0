-- The edges of rows that don't go on in an order, by the nodes' ranks in it. `places` has the
-- locations of the nodes, so several edges of nodes can be one of locations.
use Rattle.std.specs.Prelude.{◌≡◌, ℕ, ◌<◌, ◌≤◌, ◌⊎◌, List, map, slice_get, slice_index, Some}
use Rattle.std.specs.Prelude.{Contains}
use Rattle.flow_graph.specs.declared.flow_graph.Flow.{Flow}
use Rattle.flow_graph.specs.Flow.{nodes_of}
use Rattle.flow_loops.specs.Loops.{AreApart}

-- A node of this row whose rank isn't above that of the node `node` is at this location.
pub record IsBehind (row ranks places : List ℕ) (node onto : ℕ) : Type 0 where
  pub next : ℕ
  pub edge : Contains row next
  pub back : slice_index ranks next ≤ slice_index ranks node
  pub ends : slice_get places next ≡ Some onto

-- To some locations those are added that the edges in a node's row lead back to.
pub record AreAdded (row ranks places : List ℕ) (node : ℕ) (before after : List ℕ) : Type 0 where
  pub kept : (onto : ℕ) → Contains before onto → Contains after onto
  pub all : (onto : ℕ) → IsBehind row ranks places node onto → Contains after onto
  pub only : (onto : ℕ) → Contains after onto
      → Contains before onto ⊎ IsBehind row ranks places node onto

-- An edge of locations that one of the first `count` nodes has, as an edge that doesn't go on.
pub record IsBack (row : ℕ → List ℕ) (ranks places : List ℕ) (count from onto : ℕ) : Type 0 where
  pub node : ℕ
  pub early : node < count
  pub begins : slice_get places node ≡ Some from
  pub behind : IsBehind (row node) ranks places node onto

-- These are the locations that such edges lead to from a location.
pub record AreTargets (row : ℕ → List ℕ) (ranks places : List ℕ) (count from : ℕ)
    (targets : List ℕ) : Type 0 where
  pub only : (onto : ℕ) → Contains targets onto → IsBack row ranks places count from onto
  pub all : (onto : ℕ) → IsBack row ranks places count from onto → Contains targets onto

-- These are such edges from some locations, none twice.
pub record AreBack (row : ℕ → List ℕ) (ranks places : List ℕ) (count : ℕ) (froms : List ℕ)
    (edges : List (ℕ × ℕ)) : Type 0 where
  pub begins : (from onto : ℕ) → Contains edges (from, onto) → Contains froms from
  pub only : (from onto : ℕ) → Contains edges (from, onto)
      → IsBack row ranks places count from onto
  pub all : (from onto : ℕ) → Contains froms from → IsBack row ranks places count from onto
      → Contains edges (from, onto)
  pub apart : AreApart edges

-- the edges from a location to some others
abbrev pub edges_onto : ℕ → List ℕ → List (ℕ × ℕ)
edges_onto from targets = map (λ onto. (from, onto)) targets

-- the locations of the flow graph's nodes
abbrev pub places_in : Flow → List ℕ
places_in flow = map (λ node. node.place) (nodes_of flow)
