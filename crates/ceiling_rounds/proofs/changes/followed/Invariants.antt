use Rattle.std.proofs.Common.{◌≡◌, take}
use Rattle.ceiling_rounds.specs.Change.{all_followed}
use Rattle.ceiling_rounds.proofs.changes.followed.Given as goal

-- those so far
abbrev pub invariant-loop-index : goal.invariant-loop-index
invariant-loop-index l = l.all.items ≡ all_followed (take l.index l.changes) (take l.index l.others)
