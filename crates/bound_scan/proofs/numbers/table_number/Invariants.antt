use Rattle.std.proofs.Common.{◌≡◌, drop}
use Rattle.bound_scan.specs.Table.{number_of}
use Rattle.bound_scan.proofs.CountLoops.{counts_from}
use Rattle.bound_scan.proofs.numbers.table_number.Given as goal

-- it is the number of the counts from this place on
abbrev pub invariant-loop-place : goal.invariant-loop-place
invariant-loop-place l = l.number ≡ number_of (drop l.place l.marks) (counts_from l.marks l.place l.counts.passes)
