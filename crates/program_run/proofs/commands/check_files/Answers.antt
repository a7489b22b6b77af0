-- Of check_files: what is found of the texts is found of the files that hold them; a fault is that of
-- the first file that can't be had, or lack of memory.
use Rattle.std.proofs.Common.{Bool, List, ℕ, Option, inl, inr, refl, sym, subst, arith}
use Rattle.std.proofs.lemmas.Result.{err_from_is_err_and}
use Rattle.std.specs.Prelude.{option_map}
use Rattle.print_lines.specs.Output.{GetsComplaint, GetsResult}
use Rattle.print_lines.specs.Reply.{lists}
use Rattle.print_lines.proofs.NoLine.{no_line, no_line_of_lists}
use Rattle.check_findings.specs.Lacking.{check_text}
use Rattle.check_deck.specs.FindingsOf.{found_in}
use Rattle.read_faults.specs.FaultLines.{Named}
use Rattle.read_faults.specs.NamedTexts.{named}
use Rattle.read_documents.specs.Asked.{name_in, named_with}
use Rattle.read_documents.specs.TextsOf.{inputs_in, texts_in}
use Rattle.read_documents.specs.Documents.{Texts}
use Rattle.read_documents.specs.TextsIn.{IsInputsText}
use Rattle.program_run.specs.declared.checking.Checked.{Checked}
use Rattle.program_run.specs.declared.checking.Checked.TheVariants.{Faulty, Sound}
use Rattle.program_run.specs.Checked.{IsChecked}
use Rattle.program_run.specs.SaysCheck.{findings_reply, status_after_check}
use Rattle.program_run.proofs.Looking.{of_file, of_none}
use Rattle.program_run.proofs.OfNoFile.{check_of_none}
use Rattle.program_run.proofs.commands.check_files.Goals as goal

pub returns-in_err-texts-clause-does : goal.returns-in_err-texts-clause-does
returns-in_err-texts-clause-does g c =
    let p = err_from_is_err_and c.from_residual.result c.from_residual.ensures.1 in
    rw (p.1, p.2) (λ held told.
    inr (c.in_err-texts.field-0.0, inl (c.in_err-texts.ensures.fault held told), refl, refl))

pub returns-in_err-checked-clause-does : goal.returns-in_err-checked-clause-does
returns-in_err-checked-clause-does g c =
    let p = err_from_is_err_and c.from_residual-in_err-checked.result c.from_residual-in_err-checked.ensures.1 in
    let name = name_in c.args.name in
    let texts = c.in_ok-texts.ensures in
    let read : Texts × Option Named = (texts_in c.in_ok-texts.texts, inputs_in name (option_map (λ bytes. bytes.items) c.in_ok-texts.inputs)) in
    rw (p.1, p.2) (λ held told. inr (
      c.in_err-checked.field-0.0,
      inr (read, (texts.texts held told, texts.inputs held told), c.in_err-checked.ensures.refused),
      refl,
      refl,
    ))

pub returns-in-Faulty-clause-does : goal.returns-in-Faulty-clause-does
returns-in-Faulty-clause-does g c =
    let name = name_in c.args.name in
    let texts = c.in_ok-texts.ensures in
    let inputs = option_map named c.named_inputs.result in
    let read : Texts × Option Named = (texts_in c.in_ok-texts.texts, inputs) in
    let lines = c.in-Faulty.lines.items in
    let old = g.E.Output.device c.args.err.now in
    let new = g.E.Output.device c.tell_faults.new.err in
    let gets = subst (λ (text : List ℕ). GetsComplaint old new text) c.deref.ensures.value c.tell_faults.ensures.lines in
    let faulty : IsChecked c.args.files read.0 inputs (Faulty c.in-Faulty.lines) =
    subst (λ (one : Checked). IsChecked c.args.files read.0 inputs one) c.in-Faulty.is c.in_ok-checked.ensures.checked in (
      lists lines,
      (λ held told.
          let named_so : IsInputsText held name inputs =
          subst (λ (one : Option Named). IsInputsText held name one) (sym c.named_inputs.ensures) (texts.inputs held told) in
          inl (read, (texts.texts held told, named_so), refl, inl (lines, faulty.0, faulty.1, refl))),
      no_line_of_lists _,
      (refl, gets, c.tell_faults.ensures.status),
    )

pub returns-clause-does : goal.returns-clause-does
returns-clause-does g c =
    let name = name_in c.args.name in
    let texts = c.in_ok-texts.ensures in
    let inputs = option_map named c.named_inputs.result in
    let read : Texts × Option Named = (texts_in c.in_ok-texts.texts, inputs) in
    let found = found_in c.in-Sound.findings in
    let sound : IsChecked c.args.files read.0 inputs (Sound c.in-Sound.findings c.in-Sound.lacking) =
    subst (λ (one : Checked). IsChecked c.args.files read.0 inputs one) c.in-Sound.is c.in_ok-checked.ensures.checked in
    let old = g.O.Output.device c.args.out.now in
    let new = g.O.Output.device c.tell_findings.new.out in
    let gets =
    subst (λ (long : Bool). GetsResult old new (check_text long found) (status_after_check found) c.tell_findings.result)
    sound.3 c.tell_findings.ensures in (
      findings_reply sound.0 found,
      (λ held told.
          let named_so : IsInputsText held name inputs =
          subst (λ (one : Option Named). IsInputsText held name one) (sym c.named_inputs.ensures) (texts.inputs held told) in
          inl (read, (texts.texts held told, named_so), refl, inr (sound.0, sound.1, (found, sound.2, refl)))),
      no_line _ _,
      (gets, refl),
    )

pub returns-in_err-texts-clause-asked : goal.returns-in_err-texts-clause-asked
returns-in_err-texts-clause-asked g c =
    let p = err_from_is_err_and c.from_residual.result c.from_residual.ensures.1 in
    rw (p.1, p.2) (of_file (named_with c.args.files (name_in c.args.name)) (g.S.Source.asked c.args.source.now)
    (g.S.Source.asked c.texts_with_inputs.new.source) c.in_err-texts.field-0.0 c.in_err-texts.ensures.asked)

pub returns-in_err-checked-clause-asked : goal.returns-in_err-checked-clause-asked
returns-in_err-checked-clause-asked g c =
    let p = err_from_is_err_and c.from_residual-in_err-checked.result c.from_residual-in_err-checked.ensures.1 in
    let of = check_of_none (texts_in c.in_ok-texts.texts) c.in_err-checked.field-0.0 c.in_err-checked.ensures.refused in
    rw (p.1, p.2) (of_none (named_with c.args.files (name_in c.args.name)) (g.S.Source.asked c.args.source.now)
    (g.S.Source.asked c.texts_with_inputs.new.source) c.in_err-checked.field-0.0 of.part c.in_ok-texts.ensures.asked)

pub returns-in_err-checked-clause-counted : goal.returns-in_err-checked-clause-counted
returns-in_err-checked-clause-counted g c =
    let p = err_from_is_err_and c.from_residual-in_err-checked.result c.from_residual-in_err-checked.ensures.1 in
    let of = check_of_none (texts_in c.in_ok-texts.texts) c.in_err-checked.field-0.0 c.in_err-checked.ensures.refused in
    rw (p.1, p.2) (omega (arith, c.in_ok-texts.ensures.counted, of.reads))
