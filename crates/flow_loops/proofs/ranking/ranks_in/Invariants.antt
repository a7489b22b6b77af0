use Rattle.std.proofs.Common.{◌≡◌, ℕ, ◌<◌, length, slice_get, Some}
use Rattle.flow_loops.proofs.ranking.ranks_in.Given as goal

-- the ranks of the nodes so far
abbrev pub invariant-loop-rank : goal.invariant-loop-rank
invariant-loop-rank l = record {
  long : length l.ranks.items ≡ l.fn.size;
  ranked : (rank node : ℕ) → rank < l.rank → slice_get l.order rank ≡ Some node
      → slice_get l.ranks.items node ≡ Some rank;
}
