use Rattle.machine_steps.proofs.Within.{zeros}
use Rattle.machine_steps.proofs.counts.Counts.none.Goals as goal

pub returns : goal.returns
returns c = λ marks few. zeros marks 64 few
