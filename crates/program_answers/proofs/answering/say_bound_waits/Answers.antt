use Rattle.std.proofs.Common.{inl, refl}
use Rattle.bound_scan.specs.AnalysisOf.{angle_of, bound_of, visits_of}
use Rattle.print_walks.specs.WaitsOf.{firsts_of}
use Rattle.program_answers.specs.Says.{waits_reply}
use Rattle.print_lines.proofs.NoLine.{no_line}
use Rattle.program_answers.proofs.answering.say_bound_waits.Goals as goal

pub returns-clause-does : goal.returns-clause-does
returns-clause-does g c err =
    let analysis = c.args.analysis.now in
    let waits = c.in_ok-waits.waits in
    let is = c.requires in (
      waits_reply c.args.documents.now (angle_of analysis) (visits_of analysis) (firsts_of waits) (bound_of analysis),
      inl (
        is.0,
        (
          bound_of analysis,
          is.1,
          angle_of analysis,
          visits_of analysis,
          is.2,
          firsts_of waits,
          c.in_ok-waits.ensures.firsts,
          refl,
        ),
      ),
      no_line _ _,
      (c.tell_waits.ensures, refl),
    )
