use Rattle.std.proofs.Common.{arith, sym}
use Rattle.machine_emulator.proofs.setup.is_given.Goals as goal

pub returns-then-number : goal.returns-then-number
returns-then-number c = (c.loop-given.given-index, c.given-item.result, omega arith, sym c.given-item.is, omega arith)
