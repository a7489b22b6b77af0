use Rattle.machine_steps.proofs.SinceLaws.{inside_iff}
use Rattle.proved_laws.proofs.machine.inside_is_a_chain.Goals as goal

pub returns : goal.returns
returns c = inside_iff
