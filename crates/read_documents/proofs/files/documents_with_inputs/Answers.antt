-- Of documents_with_inputs: documents are read first, and inputs behind them. What the source says
-- of the files that are asked for first says it of the documents, and the rest of the inputs.
use Rattle.std.proofs.Common.{[], ◌∷◌, inl, inr, ap, ◌∙◌}
use Rattle.std.proofs.lemmas.Result.{err_from_is_err_and}
use Rattle.print_lines.specs.declared.part.Part.TheVariants as part
use Rattle.read_documents.specs.Asked.{in_file, named_in}
use Rattle.read_documents.specs.Files.{FilesTold}
use Rattle.read_documents.proofs.Asking.{all_well, earlier_faulty, first_told, last_faulty, looked_faulty}
use Rattle.read_documents.proofs.Asking.{looked_last}
use Rattle.read_documents.proofs.files.documents_with_inputs.Goals as goal

pub returns-in_err-documents-clause-fault : goal.returns-in_err-documents-clause-fault
returns-in_err-documents-clause-fault g c =
    let p = err_from_is_err_and c.from_residual.result c.from_residual.ensures.1 in
    rw (p.1, p.2) (λ held told. inl (c.in_err-documents.ensures.fault held (first_told (g.S.Source.files c.args.source.now) held (named_in c.args.files)
    (in_file part.Inputs c.args.inputs.now ∷ []) told)))

pub returns-in_err-inputs-clause-fault : goal.returns-in_err-inputs-clause-fault
returns-in_err-inputs-clause-fault g c =
    let p = err_from_is_err_and c.from_residual-in_err-inputs.result c.from_residual-in_err-inputs.ensures.1 in
    let inputs = ap (λ (files : FilesTold). files 0 c.args.inputs.now) c.in_ok-documents.ensures.behind in
    rw (p.1, p.2) (λ held told. inr (
      (
        c.in_ok-documents.documents,
        c.in_ok-documents.ensures.held held (first_told (g.S.Source.files c.args.source.now) held (named_in c.args.files)
            (in_file part.Inputs c.args.inputs.now ∷ []) told),
      ),
      c.in_err-inputs.ensures.fault (held part.Inputs) (inputs ∙ told.1.1.1.0),
    ))

pub returns-clause-held : goal.returns-clause-held
returns-clause-held g c held told =
    let inputs = ap (λ (files : FilesTold). files 0 c.args.inputs.now) c.in_ok-documents.ensures.behind in (
      c.in_ok-documents.ensures.held held (first_told (g.S.Source.files c.args.source.now) held (named_in c.args.files)
          (in_file part.Inputs c.args.inputs.now ∷ []) told),
      c.in_ok-inputs.ensures.inputs (held part.Inputs) (inputs ∙ told.1.1.1.0),
    )

pub returns-in_err-documents-clause-asked : goal.returns-in_err-documents-clause-asked
returns-in_err-documents-clause-asked g c =
    let p = err_from_is_err_and c.from_residual.result c.from_residual.ensures.1 in
    let files = named_in c.args.files in
    let inputs = in_file part.Inputs c.args.inputs.now in
    let s = g.S.Source.asked c.args.source.now in
    let s1 = g.S.Source.asked c.documents_in.new.source in
    rw (p.1, p.2) (earlier_faulty files (inputs ∷ []) s s s1 c.in_err-documents.field-0.0 c.in_err-documents.ensures.asked)

pub returns-in_err-inputs-clause-asked : goal.returns-in_err-inputs-clause-asked
returns-in_err-inputs-clause-asked g c =
    let p = err_from_is_err_and c.from_residual-in_err-inputs.result c.from_residual-in_err-inputs.ensures.1 in
    let files = named_in c.args.files in
    let inputs = in_file part.Inputs c.args.inputs.now in
    let s = g.S.Source.asked c.args.source.now in
    let s1 = g.S.Source.asked c.documents_in.new.source in
    let s2 = g.S.Source.asked c.inputs_in.new.source in
    let told = c.in_err-inputs.field-0.0 in
    rw (p.1, p.2) (last_faulty files (inputs ∷ []) s s1 s2 told c.in_ok-documents.ensures.asked
    (looked_faulty inputs [] told s1 s2 c.in_err-inputs.ensures.asked))

pub returns-clause-asked : goal.returns-clause-asked
returns-clause-asked g c =
    let files = named_in c.args.files in
    let inputs = in_file part.Inputs c.args.inputs.now in
    let s = g.S.Source.asked c.args.source.now in
    let s1 = g.S.Source.asked c.documents_in.new.source in
    let s2 = g.S.Source.asked c.inputs_in.new.source in
    all_well files (inputs ∷ []) s s1 s2 c.in_ok-documents.ensures.asked
    (looked_last inputs s1 s2 c.in_ok-inputs.ensures.asked)
