use Rattle.std.proofs.Common.{◌+◌, drop}
use Rattle.toml.specs.View.{items_view, table_view}
use Rattle.read_toml.specs.Document as document
use Rattle.read_toml.proofs.Adding.{Left}
use Rattle.read_toml.proofs.document.faults.Faults.elements.Given as goal

-- those of the elements so far have been added
abbrev pub invariant-loop-place : goal.invariant-loop-place
invariant-loop-place g l =
    Left l.initial.self.all.items l.self.all.items
    (document.elements_faults (g.T.Checked.faults (table_view l.fields.whole.now)) l.path (l.place + 1) (items_view (drop l.place l.items)))
    (document.elements_faults (g.T.Checked.faults (table_view l.fields.whole.now)) l.path 1 (items_view l.items))
