use Rattle.std.proofs.Common.{◌≡◌, drop, length}
use Rattle.bound_scan.proofs.CountLoops.{Leads, counts_from}
use Rattle.bound_scan.proofs.numbers.counts_at.Given as goal

-- the counts from this place on are taken
abbrev pub invariant-loop-place : goal.invariant-loop-place
invariant-loop-place l =
    record {
      taken : Leads (drop l.place l.marks) (counts_from l.marks l.place l.passes) l.rest l.number;
      places : length l.passes ≡ 64;
    }
