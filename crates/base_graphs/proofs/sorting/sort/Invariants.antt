use Rattle.std.proofs.Common.{◌≡◌, ◌≢◌, ℕ, ◌<◌, [], slice_get, Some}
use Rattle.base_graphs.specs.declared.progress.Progress.TheVariants.{New}
use Rattle.base_graphs.specs.Graph.{row, size}
use Rattle.base_graphs.specs.Search.{Searches}
use Rattle.base_graphs.proofs.sorting.sort.Given as goal

-- the roots so far are met
abbrev pub invariant-loop-root : goal.invariant-loop-root
invariant-loop-root l = record {
  sound : Searches (row l.graph) (size l.graph) l.search;
  empty : l.search.path.items ≡ [];
  met : (node : ℕ) → node < l.root → slice_get l.search.states.items node ≢ Some New;
}
