use Rattle.std.proofs.Common.{[]}
use Rattle.program_answers.proofs.telling.tell_ceiling.Goals as goal

pub returns : goal.returns
returns g c = c.end_result.ensures _ _ (c.put_ceiling.ensures.stands _ [] (c.new-sheet.ensures _))
