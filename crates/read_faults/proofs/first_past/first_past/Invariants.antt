use Rattle.std.proofs.Common.{◌<◌, ◌≤◌, length}
use Rattle.read_faults.proofs.Passed.{Passed}
use Rattle.read_faults.proofs.first_past.first_past.Given as goal

abbrev pub invariant-loop-line : goal.invariant-loop-line
invariant-loop-line l = record {
  passed : Passed (λ line. l.longest < length line) l.text l.line-iterator.rest.now l.number;
  few : l.number ≤ l.most;
}
