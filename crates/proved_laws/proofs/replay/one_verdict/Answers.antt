use Rattle.proved_laws.proofs.OneVerdict.{one_verdict}
use Rattle.proved_laws.proofs.replay.one_verdict.Goals as goal

pub returns : goal.returns
returns c = one_verdict
