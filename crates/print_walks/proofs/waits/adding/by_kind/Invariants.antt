use Rattle.std.proofs.Common.{take}
use Rattle.base_notes.specs.Entries.{entry_in}
use Rattle.print_walks.specs.KindRows.{AreRows}
use Rattle.print_walks.proofs.waits.adding.by_kind.Given as goal

-- the rows of the hops so far
abbrev pub invariant-loop-visit : goal.invariant-loop-visit
invariant-loop-visit l = AreRows (entry_in l.times) l.angle (take l.visit-index l.walk) l.waits
