use Rattle.read_toml.specs.LongMarks.{names_in}
use Rattle.read_toml.proofs.LongMarks.{outer_found, outer_number}
use Rattle.toml.specs.View.{view, table_view}
use Rattle.read_toml.proofs.notes.read_mark.read_outer.Goals as goal

pub returns-in-Some : goal.returns-in-Some
returns-in-Some c =
    outer_found (names_in (table_view c.args.fields.now.whole.now)) _ c.args.place _
    (table_view c.args.fields.now.table.now) (view c.in_ok-value.value.now) c.in-Some.name.now c.first_named.result
    c.first_marks.ensures c.in_ok-value.ensures c.in-Some.ensures c.requires c.first_named.ensures.none
    c.first_named.ensures.some

pub returns-in-None : goal.returns-in-None
returns-in-None c =
    outer_number (names_in (table_view c.args.fields.now.whole.now)) c.args.place (table_view c.args.fields.now.table.now)
    (view c.in_ok-value.value.now) c.number.result c.checked_sub.result c.in_ok-value.ensures c.in-None.ensures
    c.number.ensures c.checked_sub.ensures c.requires
