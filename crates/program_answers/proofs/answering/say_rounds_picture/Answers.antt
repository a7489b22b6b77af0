use Rattle.std.proofs.Common.{List, ℕ, ap, inr, refl, subst, ◌∙◌}
use Rattle.std.specs.Prelude.{string_bytes}
use Rattle.ceiling_rounds.specs.InRounds as walks
use Rattle.ceiling_checked.specs.CeilingOf as ceilings
use Rattle.picture_scene.specs.declared.shares.Shares.{Shares}
use Rattle.picture_scene.specs.declared.walk.Kind.TheVariants.{InRounds}
use Rattle.picture_drawing.specs.PictureText.{IsPictureOf}
use Rattle.print_lines.specs.declared.status.Status.TheVariants.{Done}
use Rattle.print_lines.specs.Output.{GetsResult}
use Rattle.print_lines.proofs.NoLine.{no_line}
use Rattle.print_ceilings.proofs.RowRoom.{hops_seen, spelled_out}
use Rattle.read_documents.specs.Documents.{setting_of}
use Rattle.program_answers.specs.Says.{picture_reply}
use Rattle.program_answers.specs.Shares.{shares_of}
use Rattle.program_answers.proofs.answering.say_rounds_picture.Goals as goal

pub all_waits_in_rounds-requires-clause-right : goal.all_waits_in_rounds-requires-clause-right
all_waits_in_rounds-requires-clause-right g c =
    (c.args.documents.now.deck, (c.args.documents.now.notes, c.requires.right.walk))

pub returns-clause-does : goal.returns-clause-does
returns-clause-does g c err =
    let documents = c.args.documents.now in
    let bracket = c.args.bracket.now in
    let right = c.requires.right.walk in
    let visits = hops_seen documents.deck documents.times documents.notes bracket.walk right in
    let out = spelled_out documents.deck documents.times documents.notes bracket.walk right in
    let total = walks.total_of bracket.walk in
    let text = string_bytes c.in_ok-text.text in
    let shares =
    c.shares_of-shares.ensures ∙ ap (λ (time : ℕ). shares_of time c.all_waits_in_rounds.result) c.total.ensures
    ∙ ap (shares_of total) (c.all_waits_in_rounds.ensures (setting_of documents) visits refl out) in
    let pictured =
    subst (λ (ceiling : ℕ). IsPictureOf (InRounds ceiling) total c.shares_of-shares.result text) c.total-ceiling.ensures
    c.in_ok-text.ensures in (
      picture_reply text,
      inr (
        c.requires.none,
        bracket,
        c.requires.right,
        (
          visits,
          out,
          text,
          subst (λ (one : Shares). IsPictureOf (InRounds (ceilings.total_of bracket.ceiling)) total one text) shares
              pictured,
          refl,
        ),
      ),
      no_line _ _,
      (
        subst (λ (said : List ℕ). GetsResult (g.O.Output.device c.args.out.now) (g.O.Output.device c.tell_text.new.out) said
            Done c.tell_text.result) c.as_bytes.ensures.value c.tell_text.ensures,
        refl,
      ),
    )
