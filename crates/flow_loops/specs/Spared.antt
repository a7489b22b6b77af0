-- Edges of locations whose marks can be spared, since the marks on others are enough.
-- `row` says which nodes the edges of a node lead to, and `places` has the nodes' locations.
use Rattle.std.specs.Prelude.{◌≡◌, ℕ, ◌<◌, ◌⊎◌, List, ◌∷◌, slice_get, slice_index, Option, Some}
use Rattle.std.specs.Prelude.{Contains}
use Rattle.base_words.specs.declared.word.Word.{Word}
use Rattle.base_notes.specs.Allowed.{Notes}
use Rattle.base_graphs.specs.Graph.{IsClosed}
use Rattle.flow_graph.specs.Hops.{IsNode, Node}
use Rattle.flow_loops.specs.Closing.{IsBack}
use Rattle.flow_loops.specs.Loops.{AreApart, IsFreeBeside, IsNeeded}

-- A node of this row whose rank is above that of the node `node` is at this location.
pub record IsAhead (row ranks places : List ℕ) (node onto : ℕ) : Type 0 where
  pub next : ℕ
  pub edge : Contains row next
  pub ahead : slice_index ranks node < slice_index ranks next
  pub ends : slice_get places next ≡ Some onto

-- An edge of locations that one of the first `count` nodes has, as an edge that goes on.
pub record IsOn (row : ℕ → List ℕ) (ranks places : List ℕ) (count from onto : ℕ) : Type 0 where
  pub node : ℕ
  pub early : node < count
  pub begins : slice_get places node ≡ Some from
  pub ahead : IsAhead (row node) ranks places node onto

-- From none of these locations does an edge both go on and lead back.
abbrev pub AreOneWay : (ℕ → List ℕ) → List ℕ → List ℕ → ℕ → List ℕ → Type 0
AreOneWay row ranks places count froms = (from onto : ℕ) → Contains froms from
    → IsOn row ranks places count from onto → ¬ IsBack row ranks places count from onto

-- marks on these edges are enough: from no node of the flow graph do others lead round
abbrev pub AreEnough : (ℕ → Option Word) → Notes → ℕ → List (ℕ × ℕ) → Type 0
AreEnough loads notes start edges = (first : Node) (others : List Node)
    → IsNode loads notes start first → ¬ IsClosed (IsFreeBeside loads notes edges) (first ∷ others)

-- they are not: from this node others do
pub record LackSome (loads : ℕ → Option Word) (notes : Notes) (start : ℕ)
    (edges : List (ℕ × ℕ)) : Type 0 where
  pub first : Node
  pub others : List Node
  pub within : IsNode loads notes start first
  pub closed : IsClosed (IsFreeBeside loads notes edges) (first ∷ others)

-- the locations of the edge from one node to another
abbrev pub edge_at : List ℕ → ℕ → ℕ → ℕ × ℕ
edge_at places node next = (slice_index places node, slice_index places next)

-- This is a node's row without those whose locations' edge is one of these.
pub record IsRowBeside (places : List ℕ) (edges : List (ℕ × ℕ)) (node : ℕ)
    (row rest : List ℕ) : Type 0 where
  pub kept : (next : ℕ) → Contains rest next → Contains row next
  pub none : (next : ℕ) → Contains rest next → ¬ Contains edges (edge_at places node next)
  pub all : (next : ℕ) → Contains row next → ¬ Contains edges (edge_at places node next)
      → Contains rest next

-- These are the edges but this one.
pub record AreWithout (edges : List (ℕ × ℕ)) (edge : ℕ × ℕ) (others : List (ℕ × ℕ)) : Type 0 where
  pub kept : (other : ℕ × ℕ) → Contains others other → Contains edges other
  pub gone : ¬ Contains others edge
  pub all : (other : ℕ × ℕ) → Contains edges other → (edge ≡ other) ⊎ Contains others other
  pub apart : AreApart edges → AreApart others

-- These edges are enough, and all of them are needed, but for those that are left to be tried.
pub record AreSpared (loads : ℕ → Option Word) (notes : Notes) (start : ℕ)
    (left edges : List (ℕ × ℕ)) : Type 0 where
  pub enough : AreEnough loads notes start edges
  pub apart : AreApart edges
  pub needed : (edge : ℕ × ℕ) → Contains edges edge
      → Contains left edge ⊎ IsNeeded loads notes start edges edge
