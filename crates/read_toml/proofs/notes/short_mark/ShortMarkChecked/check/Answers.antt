use Rattle.std.proofs.Common.{◌≡◌, ◌+◌, ◌-◌, ℕ, ap, arith}
use Rattle.toml.specs.View.{table_view}
use Rattle.std.specs.Prelude.{codes}
use Rattle.read_toml.specs.Document.{whole}
use Rattle.read_toml.proofs.Adding.{adds_more, adds_same, adds_none}
use Rattle.read_toml.proofs.notes.short_mark.ShortMarkChecked.check.Goals as goal

pub returns : goal.returns
returns c =
    let at = c.args.fields.now.at.now in
    let fields = table_view c.args.fields.now.table.now in
    let earlier : c.args.place ≡ c.args.place + 1 - 1 = omega arith in
    adds_more _ _ _ _ _ c.in_ok-unknown.ensures
    (adds_more _ _ _ _ _ c.in_ok-missing.ensures
    (adds_more _ _ _ _ _ c.in_ok-location.ensures
    (adds_more _ _ _ _ _ c.in_ok-location-2.ensures
    (adds_more _ _ _ _ _ c.in_ok-whole_number.ensures
    (adds_more _ _ _ _ _
    (adds_same _ _ _ _ (ap (λ (n : ℕ). whole 1 n at (codes "inside") fields) earlier) c.in_ok-whole_number-2.ensures)
    (adds_none _))))))
