use Rattle.std.proofs.Common.{refl}
use Rattle.bound_scan.specs.AnalysisOf.{angle_of, bound_of, visits_of}
use Rattle.program_answers.specs.Says.{report_reply}
use Rattle.print_lines.proofs.NoLine.{no_line}
use Rattle.program_answers.proofs.answering.say_report.Goals as goal

pub returns-clause-does : goal.returns-clause-does
returns-clause-does g c err =
    let analysis = c.in_ok-analysis.analysis in
    let is = c.in_ok-analysis.ensures in (
      report_reply c.args.documents.now (visits_of analysis),
      (bound_of analysis, is.bound, angle_of analysis, visits_of analysis, is.walk, refl),
      no_line _ _,
      (c.tell_report.ensures, refl),
    )
