use Rattle.std.proofs.Common.{◌≡◌, ◌+◌, ◌*◌, length}
use Rattle.bound_scan.specs.ScanOf.{order_of, IsScanned}
use Rattle.bound_scan.proofs.scan.Scan.take_round.Given as goal

-- the keys of the round so far have been taken
abbrev pub invariant-loop-index : goal.invariant-loop-index
invariant-loop-index g l = record {
  same : l.self ≡ record l.fn.self { cells = l.self.cells; steps = l.self.steps };
  scanned : IsScanned l.self (l.leading * length (order_of l.fn.self) + l.index);
}
