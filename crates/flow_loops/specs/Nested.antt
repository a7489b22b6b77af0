-- Which loop stands inside another one, by the edges that close them. A loop's head is the location
-- that its edge leads onto. Loops are looked at in the flow graph: where several calls lead to a
-- subroutine, each has nodes of its own there, and an exit leads back to where that call came from.
use Rattle.std.specs.Prelude.{◌≡◌, ◌≢◌, ℕ, ◌⊎◌, Option}
use Rattle.base_words.specs.declared.word.Word.{Word}
use Rattle.base_notes.specs.Allowed.{Notes}
use Rattle.flow_graph.specs.Hops.{first_node, IsLink, IsNode, Node}
use Rattle.flow_loops.specs.Loops.{LeadsTo}

-- a link that doesn't lead onto a node at the location to be avoided
abbrev pub GoesAround : (ℕ → Option Word) → Notes → ℕ → Node → Node → Type 0
GoesAround loads notes avoided node next = IsLink loads notes node next × (next.place ≢ avoided)

-- links, perhaps none, lead from the one node to the other, none of them onto the avoided location
abbrev pub LeadsAround : (ℕ → Option Word) → Notes → ℕ → Node → Node → Type 0
LeadsAround loads notes avoided node next = LeadsTo (GoesAround loads notes avoided) node next

-- They lead so from the one node to one at the location `from`, which has a link to the other node.
pub record LeadsOver (loads : ℕ → Option Word) (notes : Notes) (avoided from : ℕ)
    (node next : Node) : Type 0 where
  pub last : Node
  pub at : last.place ≡ from
  pub around : LeadsAround loads notes avoided node last
  pub link : IsLink loads notes last next

-- Without coming to the outer head, links lead from this node at the inner head round the inner
-- loop, by its edge, to this very node again; and to the outer edge, which has a link there.
pub record GoesRound (loads : ℕ → Option Word) (notes : Notes) (outer inner : ℕ × ℕ)
    (node : Node) : Type 0 where
  pub round : LeadsOver loads notes outer.1 inner.0 node node
  pub head : Node
  pub at : head.place ≡ outer.1
  pub onward : LeadsOver loads notes outer.1 outer.0 node head

-- without coming to the outer head, links lead from where runs begin to no node at the inner head
abbrev pub IsAvoided : (ℕ → Option Word) → Notes → ℕ → ℕ → ℕ → Type 0
IsAvoided loads notes start outer inner = (node : Node) → node.place ≡ inner
    → ¬ LeadsAround loads notes outer (first_node notes start) node

-- The loop that the inner edge closes stands inside the one that the outer edge closes: at the
-- inner head is a node of the flow graph from which links go round so; and the start is the outer
-- head, or leads to the inner head through the outer one alone.
pub record IsNested (loads : ℕ → Option Word) (notes : Notes) (start : ℕ)
    (outer inner : ℕ × ℕ) : Type 0 where
  pub apart : inner.1 ≢ outer.1
  pub node : Node
  pub within : IsNode loads notes start node
  pub at : node.place ≡ inner.1
  pub goes : GoesRound loads notes outer inner node
  pub through : (start ≡ outer.1) ⊎ IsAvoided loads notes start outer.1 inner.1
