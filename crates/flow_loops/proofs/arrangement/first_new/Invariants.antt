use Rattle.std.proofs.Common.{◌≡◌, ℕ, ◌<◌, ◌≤◌, true, slice_get, Some}
use Rattle.flow_loops.proofs.arrangement.first_new.Given as goal

-- the nodes so far are met
abbrev pub invariant-loop-at : goal.invariant-loop-at
invariant-loop-at l =
    (k next : ℕ) → l.from ≤ k → k < l.at → slice_get l.row k ≡ Some next → slice_get l.met next ≡ Some true
