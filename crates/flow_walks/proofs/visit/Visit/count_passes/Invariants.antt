use Rattle.std.proofs.Common.{◌≡◌, ℕ, ◌+◌, ◌<◌, ◌≤◌, length, Some}
use Rattle.std.specs.Prelude.{slice_get, slice_index}
use Rattle.base_notes.specs.declared.notes.mark.Mark.{Mark}
use Rattle.machine_steps.specs.WaysLeft.{seen_way}
use Rattle.flow_graph.specs.Walk.{passes_by}
use Rattle.flow_walks.proofs.visit.Visit.count_passes.Given as goal

-- the first marks have the hop's passes
abbrev pub invariant-loop-place : goal.invariant-loop-place
invariant-loop-place l = record {
  places : length l.passed ≡ 64;
  counted : (k : ℕ) (mark : Mark) → k < l.place → slice_get l.marks k ≡ Some mark
      → slice_index l.passed k ≡ slice_index l.fn.passed k + passes_by mark l.self.place.number (seen_way l.self.way);
  once : (k : ℕ) → slice_index l.passed k ≤ slice_index l.fn.passed k + 1;
  others : (k : ℕ) → l.place ≤ k → slice_index l.passed k ≡ slice_index l.fn.passed k;
}
