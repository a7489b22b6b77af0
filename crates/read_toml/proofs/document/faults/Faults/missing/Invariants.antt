use Rattle.std.proofs.Common.{map, drop}
use Rattle.read_toml.specs.Document as document
use Rattle.toml.specs.View.{table_view}
use Rattle.read_toml.proofs.Adding.{Left}
use Rattle.read_toml.proofs.document.faults.Faults.missing.Given as goal

-- those of the keys so far have been added
abbrev pub invariant-loop-key : goal.invariant-loop-key
invariant-loop-key l =
    Left l.initial.self.all.items l.self.all.items
    (document.missing_in l.fields.at.now (map (λ key. key.now) (drop l.key-index l.wanted)) (table_view l.fields.table.now))
    (document.missing_in l.fields.at.now (map (λ key. key.now) l.wanted) (table_view l.fields.table.now))
