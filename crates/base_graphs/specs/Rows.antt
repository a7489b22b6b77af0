-- Rows of a graph: the nodes that the edges of each node lead to.
use Rattle.std.specs.Prelude.{ℕ, ◌<◌, List, [], length, map, slice_index_or, Vec, Contains}
use Rattle.std.specs.declared.alloc.Global.{Global}

-- the nodes that the edges of a node lead to
abbrev pub targets_in : List (Vec ℕ Global) → ℕ → List ℕ
targets_in rows node = slice_index_or (map (λ (row : Vec ℕ Global). row.items) rows) node []

-- each edge leads to a node that has a row
abbrev pub AreWithin : List (Vec ℕ Global) → Type 0
AreWithin rows = (node next : ℕ) → Contains (targets_in rows node) next → next < length rows
