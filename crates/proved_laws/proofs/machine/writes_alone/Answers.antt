use Rattle.machine_steps.proofs.Alone.{writes_no_other}
use Rattle.proved_laws.proofs.machine.writes_alone.Goals as goal

pub returns : goal.returns
returns c = writes_no_other
