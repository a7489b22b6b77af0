use Rattle.std.proofs.Common.{◌≡◌, ◌+◌, ◌%◌, drop, length}
use Rattle.std.specs.Iterator.Adapters.{enumerate_count, enumerate_source}
use Rattle.flow_graph.specs.HopsLeft.{hops_left}
use Rattle.bound_scan.specs.RecentOf.{AreRecent}
use Rattle.bound_scan.specs.ScanOf.{order_of, setting_in}
use Rattle.bound_scan.proofs.Halfway.{IsHalfway}
use Rattle.bound_scan.proofs.KeysTaken.{hops_at}
use Rattle.bound_scan.proofs.scan.Scan.take_hops.Given as goal

-- the hops of the key that the iterator gave have been taken, and the others are left
abbrev pub invariant-loop-number : goal.invariant-loop-number
invariant-loop-number g l = record {
  same : l.self ≡ record l.fn.self { cells = l.self.cells; steps = l.self.steps };
  half : IsHalfway l.fn.self l.search.key l.search.begun (enumerate_count l.number-iterator) l.self.cells
      l.self.steps;
  left : drop (enumerate_count l.number-iterator) (hops_at l.fn.self l.search.key)
      ≡ hops_left (enumerate_source l.number-iterator);
  long : enumerate_count l.number-iterator + length (hops_left (enumerate_source l.number-iterator))
      ≡ length (hops_at l.fn.self l.search.key);
  recent : AreRecent (setting_in l.fn.self) (order_of l.fn.self) l.search.location.number (l.search.found % 50)
      l.recent.leaps;
}
