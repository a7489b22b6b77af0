-- Of outer: a text names one of the marks before it, or none.
use Rattle.std.proofs.Common.{ℕ, List, Option, true, false, ap, sym, ◌∙◌}
use Rattle.std.specs.Prelude.{codes}
use Rattle.toml.specs.View.{view, table_view}
use Rattle.read_toml.specs.LongMarks as said
use Rattle.read_toml.proofs.Added.{key_some}
use Rattle.read_toml.proofs.Adding.{adds_none, adds_same}
use Rattle.read_toml.proofs.LongMarks.{outer_text}
use Rattle.read_toml.proofs.document.faults.Faults.outer.Goals as goal

pub returns-in_ok-wrong : goal.returns-in_ok-wrong
returns-in_ok-wrong c =
    let names = said.names_in (table_view c.args.fields.now.whole.now) in
    adds_same _ _ _ _
    (sym (key_some (said.outer_faults names c.args.place) c.args.fields.now.at.now (codes "inside")
    (table_view c.args.fields.now.table.now) (view c.in-Some.value.now) c.in-Some.ensures
    ∙ outer_text names c.args.place _ (view c.in-Some.value.now) c.in-Some-as_str.name.now false c.in-Some-as_str.ensures
    (ap (λ (all : List (Option (List ℕ))). said.is_named all c.in-Some-as_str.name.now) (sym c.first_marks.ensures)
    ∙ sym c.is_named.ensures ∙ c.if-not-is_named.true)))
    c.in_ok-wrong.ensures

pub returns-else-not-is_named : goal.returns-else-not-is_named
returns-else-not-is_named c =
    let names = said.names_in (table_view c.args.fields.now.whole.now) in
    adds_same _ _ _ _
    (sym (key_some (said.outer_faults names c.args.place) c.args.fields.now.at.now (codes "inside")
    (table_view c.args.fields.now.table.now) (view c.in-Some.value.now) c.in-Some.ensures
    ∙ outer_text names c.args.place _ (view c.in-Some.value.now) c.in-Some-as_str.name.now true c.in-Some-as_str.ensures
    (ap (λ (all : List (Option (List ℕ))). said.is_named all c.in-Some-as_str.name.now) (sym c.first_marks.ensures)
    ∙ sym c.is_named.ensures ∙ c.if-not-is_named.false)))
    (adds_none _)
