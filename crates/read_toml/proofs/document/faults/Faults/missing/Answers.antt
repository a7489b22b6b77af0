use Rattle.toml.specs.View.{table_view}
use Rattle.read_toml.proofs.Adding.{one_step}
use Rattle.read_toml.proofs.Repeating.{missing_left}
use Rattle.read_toml.proofs.document.faults.Faults.missing.Goals as goal

pub loop-key-preserved : goal.loop-key-preserved
loop-key-preserved c =
    one_step _ _ _ _ _ _ _ c.loop-key.invariant
    (missing_left c.args.fields.now.at.now (table_view c.args.fields.now.table.now) c.args.wanted.now
    c.loop-key.key-index _ c.loop-key-test.true)
    c.in_ok-missing_key.ensures
