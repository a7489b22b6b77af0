use Rattle.std.proofs.Common.{inr, refl}
use Rattle.program_answers.specs.Says.{rounds_reply}
use Rattle.print_lines.proofs.NoLine.{no_line}
use Rattle.program_answers.proofs.answering.say_rounds.Goals as goal

pub returns-clause-does : goal.returns-clause-does
returns-clause-does g c err =
    let bracket = c.args.bracket.now in (
      rounds_reply c.args.documents.now bracket,
      inr (c.requires.none, bracket, c.requires.right, refl),
      no_line _ _,
      (c.tell_rounds.ensures, refl),
    )
