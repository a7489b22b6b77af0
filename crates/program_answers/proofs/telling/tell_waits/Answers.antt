use Rattle.std.proofs.Common.{[]}
use Rattle.program_answers.proofs.telling.tell_waits.Goals as goal

pub returns : goal.returns
returns g c = c.end_result.ensures _ _ ((c.put_waits.ensures c.requires).stands _ [] (c.new-sheet.ensures _))
