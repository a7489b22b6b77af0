use Rattle.std.proofs.Common.{take}
use Rattle.print_ceilings.specs.CountsOf.{HasCounted}
use Rattle.print_ceilings.proofs.counts.count_row.Given as goal

-- the names so far were counted
abbrev pub invariant-loop-number : goal.invariant-loop-number
invariant-loop-number l = HasCounted l.fn.counts l.counts (take l.number-index l.names)
