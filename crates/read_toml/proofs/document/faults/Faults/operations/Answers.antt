use Rattle.std.proofs.Common.{ℕ, List, ap}
use Rattle.std.specs.Prelude.{codes, flat_map}
use Rattle.toml.specs.View.{table_view}
use Rattle.read_toml.specs.Document.{unknown_in}
use Rattle.read_toml.specs.TimesDocument.{operation_faults}
use Rattle.read_toml.proofs.Adding.{adds_more, adds_same}
use Rattle.read_toml.proofs.document.faults.Faults.operations.Goals as goal

pub returns : goal.returns
returns c =
    let T = table_view c.args.table.now in
    adds_more _ _ _ _ _
    (adds_same _ _ _ _ (ap (λ (keys : List (List ℕ)). unknown_in (codes "op.") keys T) c.keys-keys.ensures)
    c.in_ok-unknown.ensures)
    (adds_same _ _ _ _ (ap (flat_map (operation_faults T)) c.all.ensures) c.in_ok-each_operation.ensures)
