use Rattle.read_replays.proofs.Refusals.{fault_one}
use Rattle.proved_laws.proofs.inputs.one_fault.Goals as goal

pub returns : goal.returns
returns c = fault_one
