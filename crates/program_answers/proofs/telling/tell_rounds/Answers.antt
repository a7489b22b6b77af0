use Rattle.std.proofs.Common.{[]}
use Rattle.program_answers.proofs.telling.tell_rounds.Goals as goal

pub put_rounds-requires-clause-right : goal.put_rounds-requires-clause-right
put_rounds-requires-clause-right g c =
    (c.args.documents.now.deck, (c.args.documents.now.notes, c.requires.right.walk))

pub returns : goal.returns
returns g c = c.end_result.ensures _ _ (c.put_rounds.ensures.stands _ [] (c.new-sheet.ensures _))
