-- An order of a graph's nodes: each edge goes on in it, or leads to a node from which edges that go
-- on lead back. `row` says which nodes the edges of a node lead to.
use Rattle.std.specs.Prelude.{◌≡◌, ℕ, ◌<◌, List, [], ◌∷◌, Contains, ◌⊎◌}
use Rattle.base_graphs.specs.Graph.{AreDifferent}
use Rattle.flow_loops.specs.Loops.{LeadsTo}

-- the one stands in a list before the other
abbrev pub IsBefore : List ℕ → ℕ → ℕ → Type 0
IsBefore [] earlier later = ⊥
IsBefore (node ∷ nodes) earlier later =
    ((node ≡ earlier) × Contains nodes later) ⊎ IsBefore nodes earlier later

-- an edge goes on from the one node to the other
abbrev pub GoesOn : (ℕ → List ℕ) → List ℕ → ℕ → ℕ → Type 0
GoesOn row order node next = Contains (row node) next × IsBefore order node next

-- the one node stands before the other, or edges that go on lead from the other back to it
abbrev pub IsPlaced : (ℕ → List ℕ) → List ℕ → ℕ → ℕ → Type 0
IsPlaced row order node next = IsBefore order node next ⊎ LeadsTo (GoesOn row order) next node

-- All nodes, none twice, and every edge goes on or is led back from.
pub record IsArranged (row : ℕ → List ℕ) (size : ℕ) (order : List ℕ) : Type 0 where
  pub all : (node : ℕ) → node < size → Contains order node
  pub within : (node : ℕ) → Contains order node → node < size
  pub distinct : AreDifferent order
  pub placed : (node next : ℕ) → Contains order node → Contains (row node) next
      → IsPlaced row order node next
