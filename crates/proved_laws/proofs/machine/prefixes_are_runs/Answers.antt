use Rattle.proved_laws.proofs.Prefixes.{run_prefix}
use Rattle.proved_laws.proofs.machine.prefixes_are_runs.Goals as goal

pub returns : goal.returns
returns c = run_prefix
