-- The rank of each node: where it stands in an order.
use Rattle.std.specs.Prelude.{◌≡◌, ℕ, List, slice_get, Some}

-- each member of an order has its index there for its rank
abbrev pub AreRanks : List ℕ → List ℕ → Type 0
AreRanks order ranks = (rank node : ℕ) → slice_get order rank ≡ Some node
    → slice_get ranks node ≡ Some rank
