-- Of replay_files: the verdict is that of the run which the inputs fix; a fault is that of the first
-- file that has one, or why there is no replay, which is of no file.
use Rattle.std.proofs.Common.{inl, inr, refl, arith}
use Rattle.std.proofs.lemmas.Result.{err_from_is_err_and}
use Rattle.read_replays.specs.declared.inputs.Inputs.{Inputs}
use Rattle.read_documents.specs.declared.documents.Documents.{Documents}
use Rattle.read_documents.specs.Asked.{all_named_in}
use Rattle.read_documents.specs.Documents.{setting_of}
use Rattle.program_replay.specs.Given.{given}
use Rattle.program_replay.specs.RunReply.{verdict_reply}
use Rattle.print_lines.proofs.NoLine.{no_line}
use Rattle.program_run.proofs.Looking.{of_file, of_none}
use Rattle.program_run.proofs.OfNoFile.{replay_of_none}
use Rattle.program_run.proofs.commands.replay_files.Goals as goal

pub returns-in_err-documents-clause-does : goal.returns-in_err-documents-clause-does
returns-in_err-documents-clause-does g c =
    let p = err_from_is_err_and c.from_residual.result c.from_residual.ensures.1 in
    rw (p.1, p.2) (λ err held told.
    inr (c.in_err-documents.field-0.0, inl (c.in_err-documents.ensures.fault held told), refl, refl))

pub returns-in_err-verdict-clause-does : goal.returns-in_err-verdict-clause-does
returns-in_err-verdict-clause-does g c =
    let p = err_from_is_err_and c.from_residual-in_err-verdict.result c.from_residual-in_err-verdict.ensures.1 in
    let read : Documents × Inputs = (c.in_ok-documents.documents, c.in_ok-documents.inputs) in
    rw (p.1, p.2) (λ err held told.
    inr (c.in_err-verdict.field-0.0, inr (read, c.in_ok-documents.ensures.held held told, c.in_err-verdict.ensures.refused), refl, refl))

pub returns-clause-does : goal.returns-clause-does
returns-clause-does g c err =
    let read : Documents × Inputs = (c.in_ok-documents.documents, c.in_ok-documents.inputs) in
    let verdict = c.in_ok-verdict.verdict in (
      verdict_reply verdict,
      (λ held told. inl (
        read,
        c.in_ok-documents.ensures.held held told,
        refl,
        (verdict, c.in_ok-verdict.ensures.verdict, refl),
      )),
      no_line _ _,
      (c.tell_verdict.ensures, refl),
    )

pub returns-in_err-documents-clause-asked : goal.returns-in_err-documents-clause-asked
returns-in_err-documents-clause-asked g c =
    let p = err_from_is_err_and c.from_residual.result c.from_residual.ensures.1 in
    rw (p.1, p.2) (of_file (all_named_in c.args.files c.args.inputs.now) (g.S.Source.asked c.args.source.now)
    (g.S.Source.asked c.documents_with_inputs.new.source) c.in_err-documents.field-0.0 c.in_err-documents.ensures.asked)

pub returns-in_err-verdict-clause-asked : goal.returns-in_err-verdict-clause-asked
returns-in_err-verdict-clause-asked g c =
    let p = err_from_is_err_and c.from_residual-in_err-verdict.result c.from_residual-in_err-verdict.ensures.1 in
    let of = replay_of_none (setting_of c.in_ok-documents.documents) (given c.in_ok-documents.inputs)
    c.in_err-verdict.field-0.0 c.in_err-verdict.ensures.refused in
    rw (p.1, p.2) (of_none (all_named_in c.args.files c.args.inputs.now) (g.S.Source.asked c.args.source.now)
    (g.S.Source.asked c.documents_with_inputs.new.source) c.in_err-verdict.field-0.0 of.part
    c.in_ok-documents.ensures.asked)

pub returns-in_err-verdict-clause-counted : goal.returns-in_err-verdict-clause-counted
returns-in_err-verdict-clause-counted g c =
    let p = err_from_is_err_and c.from_residual-in_err-verdict.result c.from_residual-in_err-verdict.ensures.1 in
    let of = replay_of_none (setting_of c.in_ok-documents.documents) (given c.in_ok-documents.inputs)
    c.in_err-verdict.field-0.0 c.in_err-verdict.ensures.refused in
    rw (p.1, p.2) (omega (arith, c.in_ok-documents.ensures.counted, of.reads))
