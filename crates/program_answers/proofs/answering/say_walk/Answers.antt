use Rattle.std.proofs.Common.{inl, refl}
use Rattle.bound_scan.specs.AnalysisOf.{angle_of, bound_of, visits_of}
use Rattle.program_answers.specs.Says.{walk_reply}
use Rattle.print_lines.proofs.NoLine.{no_line}
use Rattle.program_answers.proofs.answering.say_walk.Goals as goal

pub returns-in-Bound-clause-does : goal.returns-in-Bound-clause-does
returns-in-Bound-clause-does g c err =
    let analysis = c.in-Bound.analysis in
    let is = rw c.in-Bound.is at c.in_ok-basis.ensures.basis in (
      walk_reply c.args.documents.now (angle_of analysis) (visits_of analysis) (bound_of analysis),
      inl (is.0, (bound_of analysis, is.1, angle_of analysis, visits_of analysis, is.2, refl)),
      no_line _ _,
      (c.tell_walk.ensures, refl),
    )
