use Rattle.std.proofs.Common.{◌∙◌, sym, ap, false}
use Rattle.toml.specs.View.{view, table_view}
use Rattle.read_toml.specs.Document.{is_count}
use Rattle.read_toml.proofs.Adding.{adds_same}
use Rattle.read_toml.proofs.TablesFaults.{tables_are, tables_read}
use Rattle.read_toml.proofs.document.faults.Faults.tables.Goals as goal

pub returns-then-not-is_count : goal.returns-then-not-is_count
returns-then-not-is_count g c =
    adds_same _ _ _ _
    (sym (tables_are c.args.low c.args.high (g.T.Checked.faults (table_view c.args.fields.now.whole.now)) c.args.fields.now.at.now c.args.key.now
    (table_view c.args.fields.now.table.now) (view c.in-Some.value.now) c.in-Some-as_array.items.now.items
    false c.in-Some.ensures c.in-Some-as_array.ensures
    (sym c.if-not-is_count.true ∙ c.is_count.ensures
    ∙ ap (is_count c.args.low c.args.high) (c.len.ensures ∙ c.in-Some-as_array.items.now.ok.0))))
    c.in_ok-wrong-2.ensures

pub returns : goal.returns
returns g c =
    adds_same _ _ _ _
    (sym (tables_read c.args.low c.args.high (g.T.Checked.faults (table_view c.args.fields.now.whole.now)) c.args.fields.now.at.now c.args.key.now
    (table_view c.args.fields.now.table.now) (view c.in-Some.value.now) c.in-Some-as_array.items.now.items
    c.deref.result.now c.as_str.result.now c.is_count.result c.in-Some.ensures c.in-Some-as_array.ensures
    (c.is_count.ensures ∙ ap (is_count c.args.low c.args.high) (c.len.ensures ∙ c.in-Some-as_array.items.now.ok.0))
    c.if-not-is_count.false (c.as_str.ensures.value ∙ c.in_ok-path.ensures) c.deref.ensures.value))
    c.in_ok-elements.ensures
