use Rattle.machine_steps.proofs.SinceLaws.{kept_iff}
use Rattle.proved_laws.proofs.machine.kept_stride_by_stride.Goals as goal

pub returns : goal.returns
returns c = kept_iff
