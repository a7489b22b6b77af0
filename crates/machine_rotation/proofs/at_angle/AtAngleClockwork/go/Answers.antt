use Rattle.machine_rotation.proofs.Firsts.{first_of_angle}
use Rattle.machine_rotation.proofs.at_angle.AtAngleClockwork.go.Goals as goal

pub returns-clause-moment : goal.returns-clause-moment
returns-clause-moment c = rw c.from.ensures (first_of_angle c.args.self.now.angle c.args.clock c.args.self.now.on_drum)
