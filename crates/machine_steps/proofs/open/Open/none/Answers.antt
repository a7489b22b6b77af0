use Rattle.machine_steps.proofs.Opening.{none_yet}
use Rattle.machine_steps.proofs.open.Open.none.Goals as goal

pub returns : goal.returns
returns c = λ calls few. none_yet calls 64 few
