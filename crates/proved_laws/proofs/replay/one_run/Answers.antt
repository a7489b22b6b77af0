use Rattle.proved_laws.proofs.OneRun.{one_run, prefix_replayed}
use Rattle.proved_laws.proofs.replay.one_run.Goals as goal

pub returns-clause-same : goal.returns-clause-same
returns-clause-same c = one_run

pub returns-clause-prefixes : goal.returns-clause-prefixes
returns-clause-prefixes c = prefix_replayed
