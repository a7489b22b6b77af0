use Rattle.std.proofs.Common.{◌≡◌, take}
use Rattle.base_notes.specs.Entries.{entry_in}
use Rattle.ceiling_rounds.specs.InRounds.{often_of, pieces_of}
use Rattle.print_ceilings.specs.RoundsWaitsOf.{waited_over}
use Rattle.print_ceilings.proofs.waits.adding.waited.Given as goal

-- what the hops of the pieces so far wait
abbrev pub invariant-loop-number : goal.invariant-loop-number
invariant-loop-number l =
    l.waited ≡ waited_over (entry_in l.times) (take l.number (pieces_of l.walk)) (take l.number (often_of l.walk))
