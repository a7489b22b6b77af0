use Rattle.std.proofs.Common.{◌≡◌, ◌+◌, ◌≤◌, ◌^◌, drop}
use Rattle.flow_graph.specs.Accepted.{capped}
use Rattle.ceiling_checked.specs.InRounds as said
use Rattle.ceiling_checked.proofs.in_rounds.passes_in_all.Given as goal

-- the passes so far, and those of the marks that are left
abbrev pub invariant-loop-index : goal.invariant-loop-index
invariant-loop-index l = record {
  all : capped (l.passes + said.passes_in_all (drop l.index l.marks) (drop l.index l.rounds))
      ≡ capped (said.passes_in_all l.marks l.rounds);
  low : l.passes ≤ 2 ^ 127;
}
