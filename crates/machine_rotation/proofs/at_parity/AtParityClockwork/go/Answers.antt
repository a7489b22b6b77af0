use Rattle.machine_rotation.proofs.Firsts.{first_at_once, first_of_even, first_of_odd}
use Rattle.machine_rotation.proofs.at_parity.AtParityClockwork.go.Goals as goal

pub returns-in-Any-clause-moment : goal.returns-in-Any-clause-moment
returns-in-Any-clause-moment c = rw c.in-Any.is (first_at_once c.args.clock)

pub returns-in-Even-clause-moment : goal.returns-in-Even-clause-moment
returns-in-Even-clause-moment c = rw c.in-Even.is (first_of_even c.args.clock)

pub returns-in-Odd-clause-moment : goal.returns-in-Odd-clause-moment
returns-in-Odd-clause-moment c = rw c.in-Odd.is (first_of_odd c.args.clock)
