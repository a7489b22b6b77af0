use Rattle.std.proofs.Common.{◌≡◌, ◌++◌, drop, length, take}
use Rattle.bound_scan.specs.Table.{counts_for}
use Rattle.bound_scan.proofs.worst.Worst.passes.Given as goal

-- the counts of the marks before this place are taken, and the rest stands for the others
abbrev pub invariant-loop-place : goal.invariant-loop-place
invariant-loop-place l =
    record {
      taken : take l.place l.passes ++ counts_for (drop l.place l.marks) l.rest ≡ counts_for l.marks l.self.counts;
      places : length l.passes ≡ 64;
    }
