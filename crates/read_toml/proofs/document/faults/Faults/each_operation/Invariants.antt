use Rattle.std.proofs.Common.{drop}
use Rattle.std.specs.Prelude.{flat_map}
use Rattle.toml.specs.View.{table_view}
use Rattle.read_toml.specs.TimesDocument as document
use Rattle.read_toml.proofs.Adding.{Left}
use Rattle.read_toml.proofs.document.faults.Faults.each_operation.Given as goal

-- those of the operations so far have been added
abbrev pub invariant-loop-at : goal.invariant-loop-at
invariant-loop-at l =
    Left l.initial.self.all.items l.self.all.items
    (flat_map (document.operation_faults (table_view l.operations.table.now)) (drop l.at l.ops))
    (flat_map (document.operation_faults (table_view l.operations.table.now)) l.ops)
