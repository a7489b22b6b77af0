use Rattle.toml.specs.View.{table_view}
use Rattle.base_words.specs.declared.op.Op.TheVariants.{NoOperation}
use Rattle.read_toml.proofs.Adding.{one_step}
use Rattle.read_toml.proofs.Repeating.{operations_left}
use Rattle.read_toml.proofs.TimesEntries.{keyed_at}
use Rattle.read_toml.proofs.document.faults.Faults.each_operation.Goals as goal

pub operation-requires-clause-keyed : goal.operation-requires-clause-keyed
operation-requires-clause-keyed c =
    keyed_at c.args.keys.now c.args.ops.now c.loop-at.at _ NoOperation c.requires.keyed c.loop-at-test.true

pub loop-at-preserved : goal.loop-at-preserved
loop-at-preserved c =
    one_step _ _ _ _ _ _ _ c.loop-at.invariant
    (operations_left (table_view c.args.operations.now.table.now) c.args.ops.now c.loop-at.at NoOperation
    c.loop-at-test.true)
    c.in_ok-operation.ensures
