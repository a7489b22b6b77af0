use Rattle.read_replays.proofs.Refusals.{inputs_not_refused}
use Rattle.proved_laws.proofs.inputs.not_refused.Goals as goal

pub returns : goal.returns
returns c = inputs_not_refused
