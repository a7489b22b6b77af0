use Rattle.std.proofs.Common.{ℕ, ap}
use Rattle.std.specs.Prelude.{codes}
use Rattle.toml.specs.View.{table_view}
use Rattle.read_toml.specs.Document.{whole}
use Rattle.read_toml.proofs.Adding.{adds_more, adds_same, adds_none}
use Rattle.read_toml.proofs.notes.read_list.PatternChecked.check.Goals as goal

pub returns : goal.returns
returns c =
    adds_more _ _ _ _ _ c.in_ok-unknown.ensures
    (adds_more _ _ _ _ _ c.in_ok-missing.ensures
    (adds_more _ _ _ _ _ c.in_ok-whole_number.ensures
    (adds_more _ _ _ _ _ c.in_ok-whole_number-2.ensures
    (adds_more _ _ _ _ _
    (adds_same _ _ _ _
    (ap (λ (n : ℕ). whole n 9999 c.args.fields.now.at.now (codes "d_to") (table_view c.args.fields.now.table.now))
    c.number-least.ensures)
    c.in_ok-whole_number-3.ensures)
    (adds_more _ _ _ _ _ c.in_ok-whole_number-4.ensures (adds_none _))))))
