use Rattle.std.proofs.Common.{arith}
use Rattle.std.proofs.lemmas.Grind.{common_steps}
use Rattle.bound_scan.proofs.keys.Keys.node.Goals as goal

pub index-requires : goal.index-requires
index-requires c = grind (arith, common_steps)

pub returns-clause-hops : goal.returns-clause-hops
returns-clause-hops c = grind (arith, common_steps)
