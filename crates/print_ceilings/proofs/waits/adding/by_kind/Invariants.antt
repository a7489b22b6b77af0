use Rattle.base_notes.specs.Entries.{entry_in}
use Rattle.ceiling_rounds.specs.InRounds.{often_of, pieces_of}
use Rattle.print_ceilings.specs.KindRows.{AreRows}
use Rattle.print_ceilings.proofs.waits.adding.by_kind.Given as goal

-- the rows of the pieces so far
abbrev pub invariant-loop-number : goal.invariant-loop-number
invariant-loop-number l = AreRows (entry_in l.times) (pieces_of l.walk) (often_of l.walk) l.number l.rows
