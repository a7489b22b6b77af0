use Rattle.proved_laws.proofs.Wholes.{step_whole}
use Rattle.proved_laws.proofs.machine.stays_whole.Goals as goal

pub returns : goal.returns
returns c = step_whole
