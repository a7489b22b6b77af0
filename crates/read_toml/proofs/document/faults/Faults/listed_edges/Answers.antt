use Rattle.std.proofs.Common.{◌∙◌, sym, ap, false, Some}
use Rattle.std.specs.Prelude.{codes}
use Rattle.toml.specs.View.{view, table_view}
use Rattle.read_toml.specs.Document.{is_count}
use Rattle.read_toml.proofs.Adding.{adds_same}
use Rattle.read_toml.proofs.EdgeValues.{edges_are, edges_read}
use Rattle.read_toml.proofs.document.faults.Faults.listed_edges.Goals as goal

pub returns-then-not-is_count : goal.returns-then-not-is_count
returns-then-not-is_count c =
    adds_same _ _ _ _
    (sym (edges_are c.args.fields.now.at.now (codes "edges") (table_view c.args.fields.now.table.now)
    (view c.in-Some.value.now) c.in-Some-as_array.items.now.items false c.in-Some.ensures c.in-Some-as_array.ensures
    (sym c.if-not-is_count.true ∙ c.is_count.ensures
    ∙ ap (is_count 1 (Some 64)) (c.len.ensures ∙ c.in-Some-as_array.items.now.ok.0))))
    c.in_ok-wrong-2.ensures

pub returns : goal.returns
returns c =
    adds_same _ _ _ _
    (sym (edges_read c.args.fields.now.at.now (codes "edges") (table_view c.args.fields.now.table.now)
    (view c.in-Some.value.now) c.in-Some-as_array.items.now.items c.deref.result.now c.as_str.result.now
    c.is_count.result c.in-Some.ensures c.in-Some-as_array.ensures
    (c.is_count.ensures ∙ ap (is_count 1 (Some 64)) (c.len.ensures ∙ c.in-Some-as_array.items.now.ok.0))
    c.if-not-is_count.false (c.as_str.ensures.value ∙ c.in_ok-path.ensures) c.deref.ensures.value))
    c.in_ok-each_edge.ensures
