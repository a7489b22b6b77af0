use Rattle.read_faults.specs.DeckFaults.{SaysStart}
use Rattle.read_faults.proofs.Passed.{PassedSome}
use Rattle.read_faults.proofs.faults_of_deck.has_start.Given as goal

abbrev pub invariant-loop-line : goal.invariant-loop-line
invariant-loop-line l = record {
  passed : PassedSome SaysStart l.text l.line-iterator.rest.now;
}
