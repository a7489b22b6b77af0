-- The edges of nodes free of marks, as rows of indices in the order of discovery.
use Rattle.std.specs.Prelude.{◌≡◌, ℕ, IsNone, List, slice_get, Option, Some, Contains, filter_map}
use Rattle.std.specs.Prelude.{map}
use Rattle.base_words.specs.declared.word.Word.{Word}
use Rattle.base_notes.specs.Allowed.{Notes}
use Rattle.base_notes.specs.Marks.{mark_on}
use Rattle.base_graphs.specs.Graph.{AreDifferent, GoOn}
use Rattle.flow_graph.specs.declared.refusal.Refusal.{Refusal}
use Rattle.flow_graph.specs.declared.refusal.Refusal.TheVariants.{Memory, Unbounded}
use Rattle.flow_graph.specs.Accepted.{IsFree, IsFreeCycle, IsFreeLink}
use Rattle.flow_graph.specs.Executed.{onward}
use Rattle.flow_graph.specs.Hops.{Node}

-- those at these indices of a list
abbrev pub those_at : {X : Type 0} → List X → List ℕ → List X
those_at all indices = filter_map (slice_get all) indices

-- The row of a node has the indices of those that edges free of marks lead to from it.
pub record IsFreeRow (loads : ℕ → Option Word) (notes : Notes) (nodes : List Node) (from : Node)
    (row : List ℕ) : Type 0 where
  pub free : (index : ℕ) → Contains row index → (onto : Node) × (slice_get nodes index ≡ Some onto)
      × IsFreeLink loads notes from onto
  pub all : (index : ℕ) (onto : Node) → slice_get nodes index ≡ Some onto
      → IsFreeLink loads notes from onto → Contains row index

-- the edge to one of these locations has no mark, and a step along it leads to this node
abbrev pub IsUnmarkedTo : Notes → List ℕ → Node → Node → Type 0
IsUnmarkedTo notes targets from onto =
    Contains targets onto.place × IsNone (mark_on notes.marks from.place onto.place)
    × Contains (onward notes from onto.place) onto

-- The row has the indices of those nodes to which steps along edges without a mark lead, by the
-- locations in these targets.
pub record IsUnmarkedRow (notes : Notes) (nodes : List Node) (targets : List ℕ) (from : Node)
    (row : List ℕ) : Type 0 where
  pub free : (index : ℕ) → Contains row index → (onto : Node) × (slice_get nodes index ≡ Some onto)
      × IsUnmarkedTo notes targets from onto
  pub all : (index : ℕ) (onto : Node) → slice_get nodes index ≡ Some onto
      → IsUnmarkedTo notes targets from onto → Contains row index

-- An order of these in which every edge goes on.
pub record IsOnwardOrder {X : Type 0} (Edge : X → X → Type 0) (members order : List X) : Type 0
  where
    pub all : (one : X) → Contains members one → Contains order one
    pub only : (one : X) → Contains order one → Contains members one
    pub different : AreDifferent order
    pub onward : GoOn Edge order

-- an order of the executed locations in which every edge free of marks goes on
abbrev pub IsFreeOrder : (ℕ → Option Word) → Notes → List ℕ → List ℕ → Type 0
IsFreeOrder loads notes executed order = IsOnwardOrder (IsFree loads notes) executed order

-- the same of nodes
abbrev pub IsNodeOrder : (ℕ → Option Word) → Notes → List Node → List Node → Type 0
IsNodeOrder loads notes nodes order = IsOnwardOrder (IsFreeLink loads notes) nodes order

-- Each index's row is that of its node.
abbrev pub AreFreeRows : (ℕ → Option Word) → Notes → List Node → (ℕ → List ℕ) → Type 0
AreFreeRows loads notes nodes row = (index : ℕ) (from : Node) → slice_get nodes index ≡ Some from
    → IsFreeRow loads notes nodes from (row index)

-- the refusal has such a cycle, or there is no memory
abbrev pub IsCycleRefusal : (ℕ → Option Word) → Notes → ℕ → Refusal → Type 0
IsCycleRefusal loads notes start (Unbounded cycle) =
    IsFreeCycle loads notes start (map (λ location. location.number) cycle.locations.items)
IsCycleRefusal loads notes start Memory = Unit {0}
IsCycleRefusal loads notes start _ = ⊥
