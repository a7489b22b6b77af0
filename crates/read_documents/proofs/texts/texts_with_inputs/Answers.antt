-- Of texts_with_inputs: the texts are read first, and that of the inputs behind them where a file
-- is named. What the source says of the files that are asked for first says it of the texts, and
-- the rest of the inputs.
use Rattle.std.proofs.Common.{inl, inr, sym, subst}
use Rattle.std.proofs.lemmas.Result.{err_from_is_err_and}
use Rattle.read_documents.specs.Asked.{inputs_named, name_in, named_in}
use Rattle.read_documents.specs.TextsOf.{texts_in}
use Rattle.read_documents.specs.Files.{AreTold, FilesTold}
use Rattle.read_documents.proofs.Asking.{all_well, earlier_faulty, first_told, last_faulty}
use Rattle.read_documents.proofs.texts.texts_with_inputs.Goals as goal

pub returns-in_err-texts-clause-fault : goal.returns-in_err-texts-clause-fault
returns-in_err-texts-clause-fault g c =
    let p = err_from_is_err_and c.from_residual.result c.from_residual.ensures.1 in
    rw (p.1, p.2) (λ held told. inl (c.in_err-texts.ensures.fault held (first_told (g.S.Source.files c.args.source.now) held (named_in c.args.files)
    (inputs_named (name_in c.args.name)) told)))

pub returns-in_err-inputs-clause-fault : goal.returns-in_err-inputs-clause-fault
returns-in_err-inputs-clause-fault g c =
    let p = err_from_is_err_and c.from_residual-in_err-inputs.result c.from_residual-in_err-inputs.ensures.1 in
    let name = name_in c.args.name in
    rw (p.1, p.2) (λ held told.
    let inputs = subst (λ (files : FilesTold). AreTold files held (inputs_named name))
    (sym c.in_ok-texts.ensures.behind) told.1.1.1 in
    let texts = c.in_ok-texts.ensures.held held (first_told (g.S.Source.files c.args.source.now) held (named_in c.args.files)
    (inputs_named name) told) in
    let none = c.in_err-inputs.ensures.fault held inputs in
    inr ((texts_in c.in_ok-texts.texts, texts), none.0, none.1))

pub returns-clause-texts : goal.returns-clause-texts
returns-clause-texts g c held told =
    c.in_ok-texts.ensures.held held (first_told (g.S.Source.files c.args.source.now) held (named_in c.args.files)
    (inputs_named (name_in c.args.name)) told)

pub returns-in_err-texts-clause-asked : goal.returns-in_err-texts-clause-asked
returns-in_err-texts-clause-asked g c =
    let p = err_from_is_err_and c.from_residual.result c.from_residual.ensures.1 in
    let files = named_in c.args.files in
    let s = g.S.Source.asked c.args.source.now in
    let s1 = g.S.Source.asked c.of_files.new.source in
    rw (p.1, p.2) (earlier_faulty files (inputs_named (name_in c.args.name)) s s s1 c.in_err-texts.field-0.0
    c.in_err-texts.ensures.asked)

pub returns-in_err-inputs-clause-asked : goal.returns-in_err-inputs-clause-asked
returns-in_err-inputs-clause-asked g c =
    let p = err_from_is_err_and c.from_residual-in_err-inputs.result c.from_residual-in_err-inputs.ensures.1 in
    let files = named_in c.args.files in
    let s = g.S.Source.asked c.args.source.now in
    let s1 = g.S.Source.asked c.of_files.new.source in
    let s2 = g.S.Source.asked c.inputs_text.new.source in
    rw (p.1, p.2) (last_faulty files (inputs_named (name_in c.args.name)) s s1 s2 c.in_err-inputs.field-0.0
    c.in_ok-texts.ensures.asked c.in_err-inputs.ensures.asked)

pub returns-clause-asked : goal.returns-clause-asked
returns-clause-asked g c =
    let files = named_in c.args.files in
    let s = g.S.Source.asked c.args.source.now in
    let s1 = g.S.Source.asked c.of_files.new.source in
    let s2 = g.S.Source.asked c.inputs_text.new.source in
    all_well files (inputs_named (name_in c.args.name)) s s1 s2 c.in_ok-texts.ensures.asked c.in_ok-inputs.ensures.asked
