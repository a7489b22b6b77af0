-- Of Texts::of_files: the texts of deck, timing table and notes are read in this order. A fault of
-- one is told where those before it could be had, and where all can, they are what the files hold.
use Rattle.std.proofs.Common.{[], ◌∷◌, inl, inr, ap, ◌∙◌}
use Rattle.std.proofs.lemmas.Result.{err_from_is_err_and}
use Rattle.print_lines.specs.declared.part.Part.TheVariants as part
use Rattle.read_documents.specs.Asked.{in_file}
use Rattle.read_documents.specs.Files.{FilesTold}
use Rattle.read_documents.proofs.Asking.{looked_faulty, looked_first, looked_last, looked_well}
use Rattle.read_documents.proofs.texts.Texts.of_files.Goals as goal

pub returns-in_err-deck-clause-fault : goal.returns-in_err-deck-clause-fault
returns-in_err-deck-clause-fault g c =
    let p = err_from_is_err_and c.from_residual.result c.from_residual.ensures.1 in
    rw (p.1, p.2) (λ held told. inl (c.in_err-deck.ensures.fault (held part.Deck) told.0))

pub returns-in_err-times-clause-fault : goal.returns-in_err-times-clause-fault
returns-in_err-times-clause-fault g c =
    let p = err_from_is_err_and c.from_residual-in_err-times.result c.from_residual-in_err-times.ensures.1 in
    let times = ap (λ (files : FilesTold). files 0 c.args.files.times.now) c.in_ok-deck.ensures.behind in
    rw (p.1, p.2) (λ held told. inr (
      c.in_ok-deck.deck.items,
      c.in_ok-deck.ensures.bytes (held part.Deck) told.0,
      inl (c.in_err-times.ensures.fault (held part.Times) (times ∙ told.1.0)),
    ))

pub returns-in_err-notes-clause-fault : goal.returns-in_err-notes-clause-fault
returns-in_err-notes-clause-fault g c =
    let p = err_from_is_err_and c.from_residual-in_err-notes.result c.from_residual-in_err-notes.ensures.1 in
    let times = ap (λ (files : FilesTold). files 0 c.args.files.times.now) c.in_ok-deck.ensures.behind in
    let notes =
    ap (λ (files : FilesTold). files 0 c.args.files.notes.now) c.in_ok-times.ensures.behind
    ∙ ap (λ (files : FilesTold). files 1 c.args.files.notes.now) c.in_ok-deck.ensures.behind in
    rw (p.1, p.2) (λ held told. inr (
      c.in_ok-deck.deck.items,
      c.in_ok-deck.ensures.bytes (held part.Deck) told.0,
      inr (
        c.in_ok-times.times.items,
        c.in_ok-times.ensures.bytes (held part.Times) (times ∙ told.1.0),
        c.in_err-notes.ensures.fault (held part.Notes) (notes ∙ told.1.1.0),
      ),
    ))

pub returns-clause-held : goal.returns-clause-held
returns-clause-held g c held told =
    let times = ap (λ (files : FilesTold). files 0 c.args.files.times.now) c.in_ok-deck.ensures.behind in
    let notes =
    ap (λ (files : FilesTold). files 0 c.args.files.notes.now) c.in_ok-times.ensures.behind
    ∙ ap (λ (files : FilesTold). files 1 c.args.files.notes.now) c.in_ok-deck.ensures.behind in
    record {
      deck = c.in_ok-deck.ensures.bytes (held part.Deck) told.0;
      times = c.in_ok-times.ensures.bytes (held part.Times) (times ∙ told.1.0);
      notes = c.in_ok-notes.ensures.bytes (held part.Notes) (notes ∙ told.1.1.0);
    }

pub returns-in_err-deck-clause-asked : goal.returns-in_err-deck-clause-asked
returns-in_err-deck-clause-asked g c =
    let p = err_from_is_err_and c.from_residual.result c.from_residual.ensures.1 in
    let deck = in_file part.Deck c.args.files.deck.now in
    let times = in_file part.Times c.args.files.times.now in
    let notes = in_file part.Notes c.args.files.notes.now in
    let s = g.S.Source.asked c.args.source.now in
    let s1 = g.S.Source.asked c.read_text.new.source in
    rw (p.1, p.2) (looked_faulty deck (times ∷ notes ∷ []) c.in_err-deck.field-0.0 s s1 c.in_err-deck.ensures.asked)

pub returns-in_err-times-clause-asked : goal.returns-in_err-times-clause-asked
returns-in_err-times-clause-asked g c =
    let p = err_from_is_err_and c.from_residual-in_err-times.result c.from_residual-in_err-times.ensures.1 in
    let deck = in_file part.Deck c.args.files.deck.now in
    let times = in_file part.Times c.args.files.times.now in
    let notes = in_file part.Notes c.args.files.notes.now in
    let s = g.S.Source.asked c.args.source.now in
    let s1 = g.S.Source.asked c.read_text.new.source in
    let s2 = g.S.Source.asked c.read_text-2.new.source in
    let told = c.in_err-times.field-0.0 in
    rw (p.1, p.2) (looked_first deck (times ∷ notes ∷ []) told s s1 s2 c.in_ok-deck.ensures.asked
    (looked_faulty times (notes ∷ []) told s1 s2 c.in_err-times.ensures.asked))

pub returns-in_err-notes-clause-asked : goal.returns-in_err-notes-clause-asked
returns-in_err-notes-clause-asked g c =
    let p = err_from_is_err_and c.from_residual-in_err-notes.result c.from_residual-in_err-notes.ensures.1 in
    let deck = in_file part.Deck c.args.files.deck.now in
    let times = in_file part.Times c.args.files.times.now in
    let notes = in_file part.Notes c.args.files.notes.now in
    let s = g.S.Source.asked c.args.source.now in
    let s1 = g.S.Source.asked c.read_text.new.source in
    let s2 = g.S.Source.asked c.read_text-2.new.source in
    let s3 = g.S.Source.asked c.read_text-3.new.source in
    let told = c.in_err-notes.field-0.0 in
    rw (p.1, p.2) (looked_first deck (times ∷ notes ∷ []) told s s1 s3 c.in_ok-deck.ensures.asked
    (looked_first times (notes ∷ []) told s1 s2 s3 c.in_ok-times.ensures.asked
    (looked_faulty notes [] told s2 s3 c.in_err-notes.ensures.asked)))

pub returns-clause-asked : goal.returns-clause-asked
returns-clause-asked g c =
    let deck = in_file part.Deck c.args.files.deck.now in
    let times = in_file part.Times c.args.files.times.now in
    let notes = in_file part.Notes c.args.files.notes.now in
    let s = g.S.Source.asked c.args.source.now in
    let s1 = g.S.Source.asked c.read_text.new.source in
    let s2 = g.S.Source.asked c.read_text-2.new.source in
    let s3 = g.S.Source.asked c.read_text-3.new.source in
    looked_well deck (times ∷ notes ∷ []) s s1 s3 c.in_ok-deck.ensures.asked
    (looked_well times (notes ∷ []) s1 s2 s3 c.in_ok-times.ensures.asked
    (looked_last notes s2 s3 c.in_ok-notes.ensures.asked))
