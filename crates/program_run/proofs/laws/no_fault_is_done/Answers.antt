use Rattle.program_run.proofs.Replies.{not_done}
use Rattle.program_run.proofs.laws.no_fault_is_done.Goals as goal

pub returns : goal.returns
returns c fault = not_done fault
