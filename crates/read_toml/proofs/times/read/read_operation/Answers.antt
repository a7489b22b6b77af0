use Rattle.std.proofs.Common.{List, ℕ, ap, subst, sym, ◌∙◌}
use Rattle.toml.specs.Data.{Members, get_member}
use Rattle.toml.specs.View.{table_view}
use Rattle.read_toml.specs.TimesDocument.{IsEntry}
use Rattle.read_toml.proofs.Faultless.{table_at_is}
use Rattle.read_toml.proofs.TimesEntries.{entry_there, operation_there, same_table}
use Rattle.read_toml.proofs.times.read.read_operation.Goals as goal

pub table-requires : goal.table-requires
table-requires c =
    let T = table_view c.args.operations.now.table.now in
    let one = operation_there T c.requires.0 c.requires.2 in
    (one.fields, ap (λ (k : List ℕ). get_member k T) c.requires.1 ∙ one.has)

pub read_entry-requires : goal.read_entry-requires
read_entry-requires c =
    let T = table_view c.args.operations.now.table.now in
    let one = operation_there T c.requires.0 c.requires.2 in
    let is = same_table c.args.key.now T one.fields (table_view c.table.result.now)
    (ap (λ (k : List ℕ). get_member k T) c.requires.1 ∙ one.has) c.table.ensures in
    let said = entry_there c.requires.0 one.at one.fields one.fine in
    (said.0, subst (λ (fields : Members). IsEntry fields said.0) is said.1)

pub returns : goal.returns
returns c =
    let T = table_view c.args.operations.now.table.now in
    subst (λ (fields : Members). IsEntry fields c.read_entry.result)
    (sym (table_at_is c.args.key.now T (table_view c.table.result.now) c.table.ensures)) c.read_entry.ensures
