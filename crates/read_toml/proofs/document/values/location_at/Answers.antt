use Rattle.toml.specs.View.{view, table_view}
use Rattle.read_toml.proofs.Added.{wrong_location}
use Rattle.read_toml.proofs.document.values.location_at.Goals as goal

pub returns-in-Err : goal.returns-in-Err
returns-in-Err c =
    wrong_location (table_view c.args.table.now) c.args.key.now (view c.in_ok-member.field-0.now)
    c.in-Err.field-0 c.in_ok-member.ensures c.in-Err.ensures.wrong
