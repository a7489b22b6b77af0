use Rattle.std.proofs.Common.{◌≡◌, ℕ, ◌<◌, get_or}
use Rattle.base_graphs.proofs.search.place_of.Given as goal

-- the node isn't among those so far
abbrev pub invariant-loop-at : goal.invariant-loop-at
invariant-loop-at l = (k : ℕ) → k < l.at → get_or l.path k 0 ≡ l.node → ⊥
