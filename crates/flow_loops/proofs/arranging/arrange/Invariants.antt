use Rattle.std.proofs.Common.{◌≡◌, ℕ, ◌<◌, true, [], slice_get, Some}
use Rattle.base_graphs.specs.Graph.{row, size}
use Rattle.flow_loops.specs.Arranging.{Arranges}
use Rattle.flow_loops.proofs.arranging.arrange.Given as goal

-- the roots so far are met
abbrev pub invariant-loop-root : goal.invariant-loop-root
invariant-loop-root l = record {
  sound : Arranges (row l.graph) (size l.graph) l.search;
  empty : l.search.path.items ≡ [];
  met : (node : ℕ) → node < l.root → slice_get l.search.met.items node ≡ Some true;
}
