-- Of trace_files: the lines are those of the run which the inputs fix; a fault is that of the first
-- file that has one, or why there is no trace, which is of no file.
use Rattle.std.proofs.Common.{inl, inr, refl, arith}
use Rattle.std.proofs.lemmas.Result.{err_from_is_err_and}
use Rattle.read_replays.specs.declared.inputs.Inputs.{Inputs}
use Rattle.read_documents.specs.declared.documents.Documents.{Documents}
use Rattle.read_documents.specs.Asked.{all_named_in}
use Rattle.program_replay.specs.Given.{given}
use Rattle.program_replay.proofs.NoLine.{no_line_of_trace}
use Rattle.program_run.proofs.Looking.{of_file, of_none}
use Rattle.program_run.proofs.OfNoFile.{trace_of_none}
use Rattle.program_run.proofs.commands.trace_files.Goals as goal

pub returns-in_err-documents-clause-does : goal.returns-in_err-documents-clause-does
returns-in_err-documents-clause-does g c =
    let p = err_from_is_err_and c.from_residual.result c.from_residual.ensures.1 in
    rw (p.1, p.2) (λ err held told.
    inr (c.in_err-documents.field-0.0, inl (c.in_err-documents.ensures.fault held told), refl, refl))

pub returns-in_err-begun-clause-does : goal.returns-in_err-begun-clause-does
returns-in_err-begun-clause-does g c =
    let p = err_from_is_err_and c.from_residual-in_err-begun.result c.from_residual-in_err-begun.ensures.1 in
    let read : Documents × Inputs = (c.in_ok-documents.documents, c.in_ok-documents.inputs) in
    rw (p.1, p.2) (λ err held told.
    inr (c.in_err-begun.field-0.0, inr (read, c.in_ok-documents.ensures.held held told, c.in_err-begun.ensures.refused), refl, refl))

pub returns-clause-does : goal.returns-clause-does
returns-clause-does g c err =
    let documents = c.in_ok-documents.documents in
    let fixed = given c.in_ok-documents.inputs in
    let read : Documents × Inputs = (documents, c.in_ok-documents.inputs) in
    let traced = c.tell_trace.ensures fixed c.in_ok-begun.ensures.begun in (
      traced.0,
      (λ held told. inl (read, c.in_ok-documents.ensures.held held told, refl, traced.1)),
      no_line_of_trace documents fixed traced.0 traced.1,
      traced.2 err,
    )

pub returns-in_err-documents-clause-asked : goal.returns-in_err-documents-clause-asked
returns-in_err-documents-clause-asked g c =
    let p = err_from_is_err_and c.from_residual.result c.from_residual.ensures.1 in
    rw (p.1, p.2) (of_file (all_named_in c.args.files c.args.inputs.now) (g.S.Source.asked c.args.source.now)
    (g.S.Source.asked c.documents_with_inputs.new.source) c.in_err-documents.field-0.0 c.in_err-documents.ensures.asked)

pub returns-in_err-begun-clause-asked : goal.returns-in_err-begun-clause-asked
returns-in_err-begun-clause-asked g c =
    let p = err_from_is_err_and c.from_residual-in_err-begun.result c.from_residual-in_err-begun.ensures.1 in
    let of = trace_of_none c.in_ok-documents.documents (given c.in_ok-documents.inputs)
    c.in_err-begun.field-0.0 c.in_err-begun.ensures.refused in
    rw (p.1, p.2) (of_none (all_named_in c.args.files c.args.inputs.now) (g.S.Source.asked c.args.source.now)
    (g.S.Source.asked c.documents_with_inputs.new.source) c.in_err-begun.field-0.0 of.part
    c.in_ok-documents.ensures.asked)

pub returns-in_err-begun-clause-counted : goal.returns-in_err-begun-clause-counted
returns-in_err-begun-clause-counted g c =
    let p = err_from_is_err_and c.from_residual-in_err-begun.result c.from_residual-in_err-begun.ensures.1 in
    let of = trace_of_none c.in_ok-documents.documents (given c.in_ok-documents.inputs)
    c.in_err-begun.field-0.0 c.in_err-begun.ensures.refused in
    rw (p.1, p.2) (omega (arith, c.in_ok-documents.ensures.counted, of.reads))
