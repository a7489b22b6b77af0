-- Of run: without words the reply is that of run_joined; with words that name a command, that of
-- run_command for this command; else that of a refusal of the words. The first reads no file, the others
-- don't read the input.
use Rattle.std.proofs.Common.{◌≡◌, ℕ, refl, sym, subst, arith}
use Rattle.print_lines.specs.Reply.{TellsOfReads}
use Rattle.program_run.specs.Words.{refused_reply}
use Rattle.program_run.proofs.Replies.{refused_of_no_read}
use Rattle.program_run.proofs.Worded.{command_asked, nothing_asked, refused_unasked, some_words, with_command}
use Rattle.program_run.proofs.Worded.{with_refused, without_words}
use Rattle.program_run.proofs.running.run.Goals as goal

pub returns-then-is_empty-clause-told : goal.returns-then-is_empty-clause-told
returns-then-is_empty-clause-told g c =
    let told = c.run_joined.ensures.told in (
      told.0,
      told.1,
      (λ failures count.
          let so = told.2 failures (omega (arith, count)) in (
            so.0,
            without_words (g.I.Input.unread c.args.input.now) (g.S.Source.files c.args.source.now) failures told.0
                c.args.words.now c.if-is_empty.ensures so.1,
          )),
      nothing_asked (g.S.Source.asked c.args.source.now) told.0 c.args.words.now c.if-is_empty.ensures,
      (λ none. told.3),
    )

pub returns-in-Ok-clause-told : goal.returns-in-Ok-clause-told
returns-in-Ok-clause-told g c =
    let told = c.run_command.ensures.told in (
      told.0,
      told.1,
      (λ failures count.
          let so = told.2 failures (omega (arith, count)) in (
            so.0,
            with_command (g.I.Input.unread c.args.input.now) (g.S.Source.files c.args.source.now) failures told.0
                c.args.words.now c.if-is_empty.ensures c.in-Ok.command
                (record { faultless = c.in-Ok.ensures.faultless; said = c.in-Ok.ensures.told }) so.1,
          )),
      command_asked (g.S.Source.asked c.args.source.now) told.0 _ c.args.words.now c.if-is_empty.ensures c.in-Ok.command
          (record { faultless = c.in-Ok.ensures.faultless; said = c.in-Ok.ensures.told }) told.3,
      (λ none. absurd (some_words c.args.words.now c.if-is_empty.ensures none)),
    )

pub returns-in-Err-clause-told : goal.returns-in-Err-clause-told
returns-in-Err-clause-told g c =
    let refused = c.in-Err.refused in (
      refused_reply refused,
      c.refuse.ensures,
      (λ failures count.
          let none : failures ≡ 0 = omega (arith, count) in (
            subst (λ (n : ℕ). TellsOfReads n (refused_reply refused)) (sym none) (refused_of_no_read refused),
            with_refused (g.I.Input.unread c.args.input.now) (g.S.Source.files c.args.source.now) failures _
                c.args.words.now c.if-is_empty.ensures refused
                (record { fits = c.in-Err.ensures.kinds; taken = c.in-Err.ensures.taken }) none refl,
          )),
      refused_unasked (g.S.Source.asked c.args.source.now) (refused_reply refused) c.args.words.now
          c.if-is_empty.ensures refused (record { fits = c.in-Err.ensures.kinds; taken = c.in-Err.ensures.taken }) refl,
      (λ none. absurd (some_words c.args.words.now c.if-is_empty.ensures none)),
    )
