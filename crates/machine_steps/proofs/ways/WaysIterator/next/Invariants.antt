use Rattle.std.proofs.Common.{◌≡◌, false, length}
use Rattle.machine_steps.specs.WaysLeft.{addresses_left, ways_left}
use Rattle.machine_steps.proofs.ways.WaysIterator.next.Given as goal

-- the same ways are left as at the beginning
abbrev pub invariant-loop-address : goal.invariant-loop-address
invariant-loop-address l = record {
  late : l.self.stops_early ≡ false;
  same : ways_left l.fn.self ≡ ways_left l.self;
}

abbrev pub decreases-loop-address : goal.decreases-loop-address
decreases-loop-address l = length (addresses_left l.self)
