-- The links of the flow graph, as rows of indices in the order of discovery.
use Rattle.std.specs.Prelude.{◌≡◌, ℕ, List, slice_get, Option, Some, Contains}
use Rattle.base_words.specs.declared.word.Word.{Word}
use Rattle.base_notes.specs.Allowed.{Notes}
use Rattle.flow_graph.specs.Executed.{onward}
use Rattle.flow_graph.specs.Hops.{IsLink, Node}

-- The row of a node has the indices of those that links lead to from it.
pub record IsLinkRow (loads : ℕ → Option Word) (notes : Notes) (nodes : List Node) (from : Node)
    (row : List ℕ) : Type 0 where
  pub only : (index : ℕ) → Contains row index → (onto : Node) × (slice_get nodes index ≡ Some onto)
      × IsLink loads notes from onto
  pub all : (index : ℕ) (onto : Node) → slice_get nodes index ≡ Some onto
      → IsLink loads notes from onto → Contains row index

-- each index's row is that of its node
abbrev pub AreLinkRows : (ℕ → Option Word) → Notes → List Node → (ℕ → List ℕ) → Type 0
AreLinkRows loads notes nodes row = (index : ℕ) (from : Node) → slice_get nodes index ≡ Some from
    → IsLinkRow loads notes nodes from (row index)

-- The row has the indices of those nodes to which steps lead by the locations in these targets.
pub record IsOnwardRow (notes : Notes) (nodes : List Node) (targets : List ℕ) (from : Node)
    (row : List ℕ) : Type 0 where
  pub only : (index : ℕ) → Contains row index → (onto : Node) × (slice_get nodes index ≡ Some onto)
      × Contains targets onto.place × Contains (onward notes from onto.place) onto
  pub all : (index : ℕ) (onto : Node) → slice_get nodes index ≡ Some onto
      → Contains targets onto.place → Contains (onward notes from onto.place) onto
      → Contains row index
