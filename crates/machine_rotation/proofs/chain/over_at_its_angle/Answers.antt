use Rattle.machine_rotation.proofs.Waited.{at_angle, angles_apart, longest_behind}
use Rattle.machine_rotation.proofs.chain.over_at_its_angle.Goals as goal

pub returns-clause-angle : goal.returns-clause-angle
returns-clause-angle c at t = at_angle at.angle at.on_drum t

pub returns-clause-apart : goal.returns-clause-apart
returns-clause-apart c at s t before = angles_apart at.angle at.on_drum s t before

pub returns-clause-behind : goal.returns-clause-behind
returns-clause-behind c at t behind = longest_behind at.angle at.on_drum t behind
