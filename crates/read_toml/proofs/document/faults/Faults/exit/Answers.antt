use Rattle.std.proofs.Common.{◌++◌, sym, ◌∙◌, take}
use Rattle.std.specs.Prelude.{codes}
use Rattle.toml.specs.View.{view, table_view}
use Rattle.read_toml.specs.Calls.{is_new_exit, openings_in}
use Rattle.read_toml.specs.Document.{number_faults}
use Rattle.read_toml.proofs.Added.{key_some}
use Rattle.read_toml.proofs.Adding.{adds_none, adds_same}
use Rattle.read_toml.proofs.document.faults.Faults.exit.Goals as goal

pub returns-in_default-check_exit : goal.returns-in_default-check_exit
returns-in_default-check_exit c =
    let at = c.args.fields.now.at.now in
    let fields = table_view c.args.fields.now.table.now in
    let earlier = take c.args.place (openings_in (table_view c.args.fields.now.whole.now)) in
    adds_same _ _ _ _
    (sym (key_some (λ path value. number_faults path (is_new_exit earlier fields) value) at (codes "exit") fields
    (view c.in-Some.value.now) c.in-Some.ensures ∙ c.in_default-check_exit.ensures.none (at ++ codes "exit")))
    (adds_none _)
