use Rattle.std.proofs.Common.{◌≡◌, ◌+◌, ◌*◌, drop}
use Rattle.flow_graph.specs.Accepted.{counts_of}
use Rattle.flow_graph.specs.Passes.{leading}
use Rattle.machine_steps.specs.CountsIn.{counts_in}
use Rattle.bound_scan.proofs.CountLoops.{counts_from}
use Rattle.bound_scan.proofs.numbers.leading.Given as goal

-- the number so far leads the counts that are left
abbrev pub invariant-loop-place : goal.invariant-loop-place
invariant-loop-place l =
    l.number * counts_of (drop l.place l.marks) + leading (drop l.place l.marks)
    (counts_from l.marks l.place l.counts.passes) ≡ leading l.marks (counts_in l.counts l.marks)
