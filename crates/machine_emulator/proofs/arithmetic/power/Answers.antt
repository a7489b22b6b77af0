use Rattle.std.proofs.Common.{arith}
use Rattle.std.proofs.Math.Nat.{one-le-pow}
use Rattle.machine_emulator.proofs.arithmetic.power.Goals as goal

pub returns-clause-some : goal.returns-clause-some
returns-clause-some c = omega (arith, one-le-pow c.args.places 10 (omega arith), c.pow.ensures)
