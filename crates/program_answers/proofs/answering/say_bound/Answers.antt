use Rattle.std.proofs.Common.{refl}
use Rattle.print_lines.specs.Reply.{bound_reply}
use Rattle.print_lines.proofs.NoLine.{no_line}
use Rattle.program_answers.proofs.answering.say_bound.Goals as goal

pub returns-clause-does : goal.returns-clause-does
returns-clause-does g c err =
    let bound = c.in_ok-bound.bound in
    (bound_reply bound, (bound, c.in_ok-bound.ensures.bound, refl), no_line _ _, (c.tell_bound.ensures, refl))
