use Rattle.std.proofs.Common.{◌≡◌, ◌++◌, drop}
use Rattle.flow_graph.specs.Accepted.{capped}
use Rattle.ceiling_checked.specs.InRounds as said
use Rattle.ceiling_checked.proofs.prices.priced.Given as goal

-- the prices so far, and those of the marks that are left
abbrev pub invariant-loop-index : goal.invariant-loop-index
invariant-loop-index l =
    l.prices.items ++ said.priced capped l.unit (drop l.index l.marks) (drop l.index l.rounds)
    ≡ said.priced capped l.unit l.marks l.rounds
