use Rattle.std.proofs.Common.{take}
use Rattle.ceiling_rounds.specs.Opening.{AreBoth}
use Rattle.ceiling_rounds.proofs.openings.followed.Given as goal

-- those so far
abbrev pub invariant-loop-index : goal.invariant-loop-index
invariant-loop-index l = AreBoth (take l.index l.firsts) (take l.index l.nexts) l.all.items
