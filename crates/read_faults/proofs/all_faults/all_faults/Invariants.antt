use Rattle.std.proofs.Common.{length}
use Rattle.read_decks.specs.Lines.{lines_of}
use Rattle.read_faults.proofs.Told.{Told}
use Rattle.read_faults.proofs.all_faults.all_faults.Given as goal

abbrev pub invariant-loop-faults : goal.invariant-loop-faults
invariant-loop-faults g l = record {
  told : Told g.T.Taking.rules (lines_of l.text) (lines_of l.reading.lines.rest.now) l.reading.taking l.reading.number
      l.faults.items;
}

abbrev pub decreases-loop-faults : goal.decreases-loop-faults
decreases-loop-faults g l = length (lines_of l.reading.lines.rest.now)
