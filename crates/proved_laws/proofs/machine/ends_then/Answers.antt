use Rattle.machine_steps.proofs.Ends as ends
use Rattle.proved_laws.proofs.machine.ends_then.Goals as goal

pub returns : goal.returns
returns c = ends.ends_then
