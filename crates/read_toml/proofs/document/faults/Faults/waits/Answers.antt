use Rattle.std.proofs.Common.{ℕ, ap}
use Rattle.std.specs.Prelude.{codes}
use Rattle.toml.specs.View.{table_view}
use Rattle.read_toml.specs.Document.{whole}
use Rattle.read_toml.specs.TimesDocument.{longest}
use Rattle.read_toml.proofs.Adding.{adds_more, adds_same}
use Rattle.read_toml.proofs.document.faults.Faults.waits.Goals as goal

pub returns : goal.returns
returns c =
    adds_more _ _ _ _ _ c.in_ok-whole_number.ensures
    (adds_same _ _ _ _
    (ap (λ (n : ℕ). whole n longest c.args.fields.now.at.now (codes "wait_max") (table_view c.args.fields.now.table.now))
    c.number-least.ensures)
    c.in_ok-whole_number-2.ensures)
