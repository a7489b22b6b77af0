use Rattle.machine_steps.proofs.Ends.{ends_by_its_own}
use Rattle.proved_laws.proofs.machine.ends_by_a_way.Goals as goal

pub returns : goal.returns
returns c = ends_by_its_own
