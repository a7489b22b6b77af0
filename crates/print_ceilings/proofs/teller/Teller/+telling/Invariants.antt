use Rattle.std.proofs.Common.{◌+◌, ◌*◌, take}
use Rattle.print_ceilings.specs.ProgressOf.{told_of, HasTold}
use Rattle.print_ceilings.specs.TellerOf.{row_told}
use Rattle.print_ceilings.proofs.teller.Teller.+telling.Given as goal

-- each piece names earlier ones alone
abbrev pub decreases-named : goal.decreases-named
decreases-named g l = 4 * l.limit

abbrev pub decreases-row : goal.decreases-row
decreases-row g l = 4 * l.limit + 1

abbrev pub decreases-rounds : goal.decreases-rounds
decreases-rounds g l = 4 * l.limit + 1

abbrev pub decreases-piece : goal.decreases-piece
decreases-piece g l = 4 * l.number + 2

abbrev pub decreases-first : goal.decreases-first
decreases-first g l = 4 * l.number + 3

-- the pieces so far were told
abbrev pub invariant-row-loop-number : goal.invariant-row-loop-number
invariant-row-loop-number g l = HasTold (g.O.Output.device l.fn.writer) l.fn.sheet l.fn.progress
    (g.O.Output.device l.writer) l.sheet l.progress
    (row_told l.self l.limit (take l.number-index l.names) (told_of l.fn.progress))
