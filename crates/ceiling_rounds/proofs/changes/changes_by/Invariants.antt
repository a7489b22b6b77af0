use Rattle.std.proofs.Common.{◌≡◌, take}
use Rattle.ceiling_rounds.specs.Stretch.{changes_by}
use Rattle.ceiling_rounds.proofs.changes.changes_by.Given as goal

-- those of the marks so far
abbrev pub invariant-loop-index : goal.invariant-loop-index
invariant-loop-index l = l.changes.items ≡ changes_by l.marks l.passed 0 (take l.index l.marks)
