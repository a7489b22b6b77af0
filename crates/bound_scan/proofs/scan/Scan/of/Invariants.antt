use Rattle.std.proofs.Common.{◌≡◌, ◌*◌, length}
use Rattle.bound_scan.specs.ScanOf.{order_of, IsScanned}
use Rattle.bound_scan.proofs.scan.Scan.of.Given as goal

-- the keys of the rounds so far have been taken
abbrev pub invariant-loop-leading : goal.invariant-loop-leading
invariant-loop-leading g l = record {
  scanned : IsScanned l.scan (l.leading * length (order_of l.scan));
  times : l.scan.times.now ≡ l.fn.times;
  keys : l.scan.keys.now ≡ l.fn.keys;
}
