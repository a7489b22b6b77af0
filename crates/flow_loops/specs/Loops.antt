-- The edges that close the loops of a flow graph. With a mark on each of them no list of edges that
-- closes is free of marks, and each of them is needed for that.
use Rattle.std.specs.Prelude.{◌≡◌, ℕ, List, [], ◌∷◌, Option, Contains}
use Rattle.base_words.specs.declared.word.Word.{Word}
use Rattle.base_notes.specs.Allowed.{Notes}
use Rattle.base_graphs.specs.Graph.{IsClosed}
use Rattle.flow_graph.specs.Accepted.{IsFreeLink}
use Rattle.flow_graph.specs.Hops.{IsNode, Node}

-- none of them twice
abbrev pub AreApart : List (ℕ × ℕ) → Type 0
AreApart [] = Unit {0}
AreApart (edge ∷ edges) = ¬ Contains edges edge × AreApart edges

-- links lead from the one node along these, the last of which is the other
abbrev pub LeadBy : {X : Type 0} → (X → X → Type 0) → X → List X → X → Type 0
LeadBy Link node [] last = node ≡ last
LeadBy Link node (next ∷ nexts) last = Link node next × LeadBy Link next nexts last

-- some links, perhaps none, lead from the one node to the other
abbrev pub LeadsTo : {X : Type 0} → (X → X → Type 0) → X → X → Type 0
LeadsTo {X} Link node last = (through : List X) × LeadBy Link node through last

-- an edge of nodes that is free of marks, whose locations' edge is none of these
abbrev pub IsFreeBeside : (ℕ → Option Word) → Notes → List (ℕ × ℕ) → Node → Node → Type 0
IsFreeBeside loads notes edges node next =
    IsFreeLink loads notes node next × ¬ Contains edges (node.place, next.place)

-- an edge of nodes that is free of marks, whose locations' edge is this one or none of these
abbrev pub IsFreeBut : (ℕ → Option Word) → Notes → List (ℕ × ℕ) → ℕ × ℕ → Node → Node → Type 0
IsFreeBut loads notes edges edge node next =
    IsFreeLink loads notes node next
    × (Contains edges (node.place, next.place) → (node.place, next.place) ≡ edge)

-- Without a mark on this one of the edges something closed would be free of marks: others free of
-- marks lead round with it.
pub record IsNeeded (loads : ℕ → Option Word) (notes : Notes) (start : ℕ) (edges : List (ℕ × ℕ))
    (edge : ℕ × ℕ) : Type 0 where
  pub first : Node
  pub others : List Node
  pub within : IsNode loads notes start first
  pub closed : IsClosed (IsFreeBut loads notes edges edge) (first ∷ others)

-- These edges close the loops, none of them twice. A mark on each of them is enough, and none of
-- these marks can be spared.
pub record AreClosing (loads : ℕ → Option Word) (notes : Notes) (start : ℕ)
    (edges : List (ℕ × ℕ)) : Type 0 where
  pub needed : (edge : ℕ × ℕ) → Contains edges edge → IsNeeded loads notes start edges edge
  -- they are enough: from no node of the flow graph do other edges free of marks lead round
  pub enough : (first : Node) (others : List Node) → IsNode loads notes start first
      → ¬ IsClosed (IsFreeBeside loads notes edges) (first ∷ others)
  pub apart : AreApart edges
