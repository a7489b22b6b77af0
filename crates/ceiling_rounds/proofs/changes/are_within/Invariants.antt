use Rattle.std.proofs.Common.{◌≡◌, ℕ, ◌<◌, ◌≤◌, Some}
use Rattle.std.specs.Prelude.{slice_get}
use Rattle.base_notes.specs.declared.notes.mark.Mark.{Mark}
use Rattle.ceiling_rounds.specs.declared.change.Change.{Change}
use Rattle.ceiling_rounds.specs.Change.{peak}
use Rattle.ceiling_rounds.proofs.changes.are_within.Given as goal

-- the peak of each so far is within
abbrev pub invariant-loop-index : goal.invariant-loop-index
invariant-loop-index l =
    (k : ℕ) (change : Change) (mark : Mark) → k < l.index → slice_get l.changes k ≡ Some change
    → slice_get l.marks k ≡ Some mark → peak change 0 ≤ mark.most
