-- Of answer_of_files: what is answered of the documents is answered of the files that hold them; a
-- fault is that of the first file that has one, or that of the answer, which is of no file.
use Rattle.std.proofs.Common.{None, refl, subst, inl, inr, arith}
use Rattle.std.proofs.lemmas.Result.{err_from_is_err_and}
use Rattle.read_documents.specs.Asked.{named_in}
use Rattle.read_documents.specs.Files.{AreHeld, AreNotHeld, AreTold, Contents}
use Rattle.read_toml.specs.declared.notes.read.NotesRead.{NotesRead}
use Rattle.program_run.specs.Commands.{read_for}
use Rattle.base_devices.specs.Device.{device}
use Rattle.program_run.proofs.Looking.{of_file, of_result}
use Rattle.program_run.proofs.Doing.{does_as, faults_as}
use Rattle.program_run.proofs.OfNoFile.{of_no_part, question_of_none, unread}
use Rattle.program_run.proofs.commands.answer_of_files.Goals as goal

pub returns-in_err-documents-clause-does : goal.returns-in_err-documents-clause-does
returns-in_err-documents-clause-does g c =
    let p = err_from_is_err_and c.from_residual.result c.from_residual.ensures.1 in
    let fault = c.in_err-documents.field-0.0 in
    rw (p.1, p.2) (λ err held told.
    inr (
      fault,
      inl (subst (λ (read : NotesRead). AreNotHeld read held fault) c.read_for.ensures (c.in_err-documents.ensures.fault held told)),
      refl,
      refl,
    ))

pub returns-clause-does : goal.returns-clause-does
returns-clause-does g c err =
    let documents = c.in_ok-documents.documents in
    let held : (files : Contents) → AreTold (g.S.Source.files c.args.source.now) files (named_in c.args.files)
    → AreHeld (read_for c.args.question) files documents =
    λ files told. subst (λ (read : NotesRead). AreHeld read files documents) c.read_for.ensures
    (c.in_ok-documents.ensures.held files told) in
    does_as _ _ _ _ _ _ _ _ (λ reply says files told. inl (documents, held files told, refl, says))
    (λ fault is files told. inr (fault, inr (documents, held files told, is), refl, refl))
    c.answer_question.result (c.answer_question.ensures.does err)

pub returns-in_err-documents-clause-asked : goal.returns-in_err-documents-clause-asked
returns-in_err-documents-clause-asked g c =
    let p = err_from_is_err_and c.from_residual.result c.from_residual.ensures.1 in
    rw (p.1, p.2) (of_file (named_in c.args.files) (g.S.Source.asked c.args.source.now)
    (g.S.Source.asked c.documents_in.new.source) c.in_err-documents.field-0.0 c.in_err-documents.ensures.asked)

pub returns-clause-counted : goal.returns-clause-counted
returns-clause-counted g c =
    let of =
    faults_as _ _ _ _ _ _ _ (question_of_none c.args.question c.in_ok-documents.documents) c.answer_question.result
    (c.answer_question.ensures.does (device None 0)) in
    omega (arith, c.in_ok-documents.ensures.counted, unread c.answer_question.result of)

pub returns-clause-asked : goal.returns-clause-asked
returns-clause-asked g c =
    let of =
    faults_as _ _ _ _ _ _ _ (question_of_none c.args.question c.in_ok-documents.documents) c.answer_question.result
    (c.answer_question.ensures.does (device None 0)) in
    of_result (named_in c.args.files) (g.S.Source.asked c.args.source.now) (g.S.Source.asked c.documents_in.new.source)
    c.answer_question.result (of_no_part c.answer_question.result of) c.in_ok-documents.ensures.asked
