use Rattle.std.proofs.Common.{◌≡◌, ℕ, ◌+◌, ◌%◌, ◌≤◌, length, map, reverse}
use Rattle.std.specs.Prelude.{slice_index}
use Rattle.flow_walks.specs.Visited.{seen_visit}
use Rattle.bound_scan.specs.AnalysisOf.{ArePasses}
use Rattle.bound_scan.specs.InCells.{kept_in}
use Rattle.bound_scan.specs.KeysOf.{marks_in}
use Rattle.bound_scan.specs.ScanOf.{order_of, setting_in, size_in}
use Rattle.bound_scan.proofs.Traces.{IsTraced, key_after}
use Rattle.bound_scan.proofs.scan.Scan.walk.Given as goal

abbrev pub invariant-loop-end : goal.invariant-loop-end
invariant-loop-end g l = record {
  traced : IsTraced (setting_in l.self) (order_of l.self) (kept_in l.self.cells) l.self.cells.last l.end l.visits.items;
  passes : ArePasses (marks_in l.self.keys.now) (map seen_visit (reverse l.visits.items)) l.passed;
  first : l.first % length (order_of l.self) ≡ 0;
  few : (k : ℕ) → slice_index l.passed k + key_after l.end.origin ≤ size_in l.self;
}

abbrev pub decreases-loop-end : goal.decreases-loop-end
decreases-loop-end g l = key_after l.end.origin
