use Rattle.proved_laws.specs.WalkTime.{time_of_alike}
use Rattle.proved_laws.proofs.flow.one_time.Goals as goal

pub returns : goal.returns
returns c = time_of_alike
