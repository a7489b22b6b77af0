use Rattle.proved_laws.proofs.Prefixes.{kept_prefix}
use Rattle.proved_laws.proofs.machine.prefixes_are_kept.Goals as goal

pub returns : goal.returns
returns c = kept_prefix
