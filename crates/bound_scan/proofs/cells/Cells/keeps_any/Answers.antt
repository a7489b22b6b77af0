use Rattle.std.proofs.Common.{◌≡◌, Bool, Some, length, refl, ap, ◌∙◌, arith}
use Rattle.std.specs.Prelude.{slice_get}
use Rattle.std.proofs.lemmas.Option.{slice_get_read}
use Rattle.bound_scan.proofs.InCellsLaws.{unnoted}
use Rattle.bound_scan.proofs.cells.Cells.keeps_any.Goals as goal

pub returns : goal.returns
returns c = λ none key below round.
    let cells = c.args.self.now in
    let held = c.requires.held in
    let at : slice_get cells.rounds.items c.args.round ≡ Some c.index.result.now =
    slice_get_read cells.rounds.items (length cells.rounds.items) c.args.round c.index.result.now refl
    (omega (arith, c.requires.there, held.rounds)) c.index.ensures in
    unnoted cells key held below
    (ap (slice_get cells.rounds.items) round ∙ at ∙ ap (λ (b : Bool). Some b) none)
