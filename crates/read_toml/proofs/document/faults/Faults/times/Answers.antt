use Rattle.toml.specs.View.{view, table_view}
use Rattle.read_toml.proofs.Added.{lacks_operations, wrong_operations, all_operations}
use Rattle.read_toml.proofs.Adding.{adds_more, adds_same}
use Rattle.read_toml.proofs.document.faults.Faults.times.Goals as goal

pub returns-in_default : goal.returns-in_default
returns-in_default c =
    adds_same _ _ _ _ (lacks_operations (table_view c.args.table.now) c.in_default.ensures)
    (adds_more _ _ _ _ _ c.in_ok-unknown.ensures c.in_ok-lacks.ensures)

pub returns-in_default-as_table : goal.returns-in_default-as_table
returns-in_default-as_table c =
    adds_same _ _ _ _
    (wrong_operations (table_view c.args.table.now) (view c.in-Some.value.now) c.in-Some.ensures
    c.in_default-as_table.ensures)
    (adds_more _ _ _ _ _ c.in_ok-unknown.ensures c.in_ok-wrong.ensures)

pub returns : goal.returns
returns c =
    adds_same _ _ _ _
    (all_operations (table_view c.args.table.now) (table_view c.in-Some-as_table.table.now) (view c.in-Some.value.now)
    c.in-Some.ensures c.in-Some-as_table.ensures)
    (adds_more _ _ _ _ _ c.in_ok-unknown.ensures c.in_ok-operations.ensures)
