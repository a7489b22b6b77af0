use Rattle.std.proofs.Common.{List, ℕ, [], ap}
use Rattle.toml.specs.View.{table_view}
use Rattle.read_toml.specs.Document.{unknown_in}
use Rattle.read_toml.proofs.NotesThere.{parts_are}
use Rattle.read_toml.proofs.Adding.{adds_more, adds_none, adds_same}
use Rattle.read_toml.proofs.document.faults.Faults.notes.Goals as goal

pub returns : goal.returns
returns c =
    adds_same _ _ _ _ (parts_are c.args.read (table_view c.args.table.now)) (adds_more _ _ _ _ _
    (adds_same _ _ _ _ (ap (λ (keys : List (List ℕ)). unknown_in [] keys (table_view c.args.table.now)) c.keys_of.ensures)
    c.in_ok-unknown.ensures)
    (adds_more _ _ _ _ _ c.in_ok-missing.ensures
    (adds_more _ _ _ _ _ c.in_ok-choice.ensures
    (adds_more _ _ _ _ _ c.in_ok-choice-2.ensures
    (adds_more _ _ _ _ _ c.in_ok-fine.ensures.adds
    (adds_more _ _ _ _ _ c.in_ok-tables.ensures
    (adds_more _ _ _ _ _ c.in_ok-calls.ensures
    (adds_more _ _ _ _ _ c.in_ok-repeated_marks.ensures
    (adds_more _ _ _ _ _ c.in_ok-repeated_lists.ensures (adds_none _))))))))))
