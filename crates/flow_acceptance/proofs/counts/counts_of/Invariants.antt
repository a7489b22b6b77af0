use Rattle.std.proofs.Common.{◌≡◌, ◌*◌, ◌^◌, ◌≤◌, drop}
use Rattle.flow_graph.specs.Accepted as said
use Rattle.flow_graph.specs.Accepted.{capped}
use Rattle.flow_acceptance.proofs.counts.counts_of.Given as goal

-- the product so far, and the counts of the marks that are left
abbrev pub invariant-loop-mark : goal.invariant-loop-mark
invariant-loop-mark l = record {
  all : capped (l.counts * said.counts_of (drop l.mark-index l.marks)) ≡ capped (said.counts_of l.marks);
  low : l.counts ≤ 2 ^ 127;
}
