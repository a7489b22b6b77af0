use Rattle.std.proofs.Common.{List, ℕ, ap, inl, refl, subst, ◌∙◌}
use Rattle.std.specs.Prelude.{string_bytes}
use Rattle.picture_scene.specs.declared.shares.Shares.{Shares}
use Rattle.picture_scene.specs.declared.walk.Kind.TheVariants.{Worst}
use Rattle.bound_scan.specs.AnalysisOf.{angle_of, bound_of, visits_of}
use Rattle.picture_drawing.specs.PictureText.{IsPictureOf}
use Rattle.print_lines.specs.declared.status.Status.TheVariants.{Done}
use Rattle.print_lines.specs.Output.{GetsResult}
use Rattle.program_answers.specs.Says.{picture_reply}
use Rattle.program_answers.specs.Shares.{shares_of}
use Rattle.print_lines.proofs.NoLine.{no_line}
use Rattle.program_answers.proofs.answering.say_bound_picture.Goals as goal

pub returns-clause-does : goal.returns-clause-does
returns-clause-does g c err =
    let analysis = c.args.analysis.now in
    let is = c.requires in
    let text = string_bytes c.in_ok-text.text in
    let shares =
    c.shares_of-shares.ensures ∙ ap (λ (time : ℕ). shares_of time c.all_waits.result) (c.from.ensures ∙ c.bound.ensures.told)
    ∙ ap (shares_of (bound_of analysis)) c.all_waits.ensures in (
      picture_reply text,
      inl (
        is.0,
        (
          bound_of analysis,
          is.1,
          angle_of analysis,
          visits_of analysis,
          is.2,
          text,
          subst (λ (one : Shares). IsPictureOf Worst (bound_of analysis) one text) shares c.in_ok-text.ensures,
          refl,
        ),
      ),
      no_line _ _,
      (
        subst (λ (said : List ℕ). GetsResult (g.O.Output.device c.args.out.now) (g.O.Output.device c.tell_text.new.out) said
            Done c.tell_text.result) c.as_bytes.ensures.value c.tell_text.ensures,
        refl,
      ),
    )
