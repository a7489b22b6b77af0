use Rattle.std.proofs.Common.{◌≡◌, map, take}
use Rattle.ceiling_rounds.specs.Change.{over_rounds}
use Rattle.ceiling_rounds.proofs.changes.over_rounds.Given as goal

-- those so far
abbrev pub invariant-loop-change : goal.invariant-loop-change
invariant-loop-change l = l.all.items ≡ map (over_rounds l.times) (take l.change-index l.changes)
