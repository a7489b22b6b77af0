use Rattle.std.proofs.Common.{◌≡◌, ◌+◌, ◌≤◌, ◌^◌, drop}
use Rattle.flow_graph.specs.Accepted.{capped}
use Rattle.ceiling_checked.specs.InRounds.{passes_inside}
use Rattle.ceiling_checked.proofs.in_rounds.inside_of.Given as goal

-- the passes so far, and those of the marks that are left
abbrev pub invariant-loop-index : goal.invariant-loop-index
invariant-loop-index l = record {
  all : capped (l.passes + passes_inside l.marks l.outer l.index (drop l.index l.marks) (drop l.index l.rounds))
      ≡ capped (passes_inside l.marks l.outer 0 l.marks l.rounds);
  low : l.passes ≤ 2 ^ 127;
}
