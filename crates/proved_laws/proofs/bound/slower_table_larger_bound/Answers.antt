use Rattle.std.proofs.Common.{arith}
use Rattle.proved_laws.proofs.bound.slower_table_larger_bound.Goals as goal

pub returns : goal.returns
returns c = λ g slower bound other are worst others.
    let walk = c.slower_table_slower_walk.ensures g slower worst.angle worst.hops are worst.walk in
    omega (arith, worst.time, walk.2, others.most worst.angle walk.0 walk.1)
