use Rattle.std.proofs.Common.{◌≡◌, ℕ, ◌<◌, ◌≤◌, slice_get, Some}
use Rattle.base_graphs.specs.declared.progress.Progress.TheVariants.{Finished}
use Rattle.base_graphs.proofs.search.first_unfinished.Given as goal

-- the nodes so far are finished
abbrev pub invariant-loop-at : goal.invariant-loop-at
invariant-loop-at l =
    (k next : ℕ) → l.from ≤ k → k < l.at → slice_get l.row k ≡ Some next → slice_get l.states next ≡ Some Finished
