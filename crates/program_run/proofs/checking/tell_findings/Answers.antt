use Rattle.std.proofs.Common.{[]}
use Rattle.program_run.proofs.checking.tell_findings.Goals as goal

pub returns : goal.returns
returns g c = rw c.status_of.ensures at (c.end_result.ensures _ _ (c.put.ensures.stands _ [] (c.new-sheet.ensures _)))
