use Rattle.std.proofs.Common.{◌≡◌, ℕ, ◌<◌, ◌≤◌, length, Some}
use Rattle.std.specs.Prelude.{slice_get}
use Rattle.base_words.specs.declared.location.Location.{Location}
use Rattle.flow_graph.proofs.cycle.place_of_smallest.Given as goal

-- none of the locations so far is smaller
abbrev pub invariant-loop-place : goal.invariant-loop-place
invariant-loop-place l = record {
  within : l.smallest < length l.locations;
  least : (k : ℕ) (least other : Location) → k < l.place → slice_get l.locations l.smallest ≡ Some least
      → slice_get l.locations k ≡ Some other → least.number ≤ other.number;
}
