-- Graphs of numbered nodes: an order in which every edge goes on, and cycles. `row` says which
-- nodes the edges of a node lead to.
use Rattle.std.specs.Prelude.{ℕ, suc, ◌<◌, ◌==◌, Bool, true, false, List, [], ◌∷◌, length, Contains}
use Rattle.base_graphs.specs.declared.graph.Graph.{Graph}
use Rattle.base_graphs.specs.declared.sorted.Sorted.{Sorted}
use Rattle.base_graphs.specs.declared.sorted.Sorted.TheVariants.{Ordered, Cyclic}
use Rattle.base_graphs.specs.Rows.{targets_in}

-- the nodes that the edges of a node lead to
abbrev pub row : Graph → ℕ → List ℕ
row graph node = targets_in graph.rows.items node

-- how many nodes a graph has
abbrev pub size : Graph → ℕ
size graph = length graph.rows.items

-- no member twice
abbrev pub AreDifferent : {X : Type 0} → List X → Type 0
AreDifferent [] = Unit {0}
AreDifferent (node ∷ nodes) = ¬ Contains nodes node × AreDifferent nodes

-- each edge of a member leads to a later member
abbrev pub GoOn : {X : Type 0} → (X → X → Type 0) → List X → Type 0
GoOn Edge [] = Unit {0}
GoOn {X} Edge (node ∷ nodes) =
    ((next : X) → Edge node next → Contains nodes next) × GoOn Edge nodes

-- an edge of rows leads from the one node to the other
abbrev pub Leads : (ℕ → List ℕ) → ℕ → ℕ → Type 0
Leads row node next = Contains (row node) next

-- All nodes, none twice, and every edge goes on.
pub record IsTopologicalOrder (row : ℕ → List ℕ) (size : ℕ) (order : List ℕ) : Type 0 where
  pub all : (node : ℕ) → node < size → Contains order node
  pub within : (node : ℕ) → Contains order node → node < size
  pub distinct : AreDifferent order
  pub onward : GoOn (Leads row) order

-- edges lead from a node along these, and from the last to the first
abbrev pub LeadRound : {X : Type 0} → (X → X → Type 0) → X → X → List X → Type 0
LeadRound Edge first node [] = Edge node first
LeadRound Edge first node (next ∷ nexts) = Edge node next × LeadRound Edge first next nexts

abbrev pub IsClosed : {X : Type 0} → (X → X → Type 0) → List X → Type 0
IsClosed Edge [] = ⊥
IsClosed Edge (node ∷ nodes) = LeadRound Edge node node nodes

-- Some nodes, none twice: edges lead from each to the next, and from the last to the first.
pub record IsCycle (row : ℕ → List ℕ) (size : ℕ) (cycle : List ℕ) : Type 0 where
  pub within : (node : ℕ) → Contains cycle node → node < size
  pub distinct : AreDifferent cycle
  pub closed : IsClosed (Leads row) cycle

-- an order in which every edge goes on, or a cycle
abbrev pub IsSorted : (ℕ → List ℕ) → ℕ → Sorted → Type 0
IsSorted row size (Ordered order) = IsTopologicalOrder row size order.items
IsSorted row size (Cyclic cycle) = IsCycle row size cycle.items

-- how far before the end of a list the first stands that is the same as one, as a test says; 0
-- where there is none
abbrev pub height_by : Bool → ℕ → ℕ → ℕ
height_by true here behind = here
height_by false here behind = behind

abbrev pub height_of : {X : Type 0} → (X → X → Bool) → List X → X → ℕ
height_of same [] one = 0
height_of same (node ∷ nodes) one =
    height_by (same node one) (suc (length nodes)) (height_of same nodes one)

-- the same of locations
abbrev pub height : List ℕ → ℕ → ℕ
height = height_of (λ node place. node == place)
