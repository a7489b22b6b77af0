use Rattle.std.proofs.Common.{◌≡◌, List, length}
use Rattle.read_decks.specs.Lines.{lines_of}
use Rattle.read_decks.proofs.Passing.{HasPassed}
use Rattle.read_decks.proofs.reading.Reading.next_fault.Given as goal

-- the lines so far are sound with those that were held
abbrev pub invariant-loop-line : goal.invariant-loop-line
invariant-loop-line g l = record {
  passed : (before : List g.T.Taking.rules.Line) → l.fn.self.number ≡ length before
      → g.T.Taking.rules.Holds l.fn.self.taking before
      → HasPassed g.T.Taking.rules l.self.taking l.self.number (lines_of l.fn.self.lines.rest.now)
      (lines_of l.self.lines.rest.now) before;
}

abbrev pub decreases-loop-line : goal.decreases-loop-line
decreases-loop-line g l = length (lines_of l.self.lines.rest.now)
