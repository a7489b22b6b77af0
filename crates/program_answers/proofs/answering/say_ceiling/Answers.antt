use Rattle.std.proofs.Common.{refl}
use Rattle.program_answers.specs.Says.{ceiling_reply}
use Rattle.print_lines.proofs.NoLine.{no_line}
use Rattle.program_answers.proofs.answering.say_ceiling.Goals as goal

pub returns-clause-does : goal.returns-clause-does
returns-clause-does g c err =
    let bracket = c.in_ok-bracket.bracket in (
      ceiling_reply c.args.documents.now bracket,
      (bracket, c.in_ok-bracket.ensures.bracket, refl),
      no_line _ _,
      (c.tell_ceiling.ensures, refl),
    )
