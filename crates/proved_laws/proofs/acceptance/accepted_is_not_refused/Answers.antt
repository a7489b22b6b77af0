use Rattle.proved_laws.proofs.Refusals.{only_memory}
use Rattle.proved_laws.proofs.acceptance.accepted_is_not_refused.Goals as goal

pub returns : goal.returns
returns c = only_memory
