use Rattle.std.proofs.Common.{◌≡◌}
use Rattle.bound_scan.proofs.Halfway.{IsHalfway}
use Rattle.bound_scan.proofs.scan.Scan.take_leaps.Given as goal

-- the first `number` hops of the key have been taken
abbrev pub invariant-loop-number : goal.invariant-loop-number
invariant-loop-number g l = record {
  same : l.self ≡ record l.fn.self { cells = l.self.cells; steps = l.self.steps };
  half : IsHalfway l.fn.self l.search.key l.search.begun l.number l.self.cells l.self.steps;
}
