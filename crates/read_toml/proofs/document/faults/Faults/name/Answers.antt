-- Of name: a text is a name that no mark before it has, or it isn't.
use Rattle.std.proofs.Common.{◌++◌, [], ◌∷◌, Bool, cond, refl, ap, sym, ◌∙◌, take}
use Rattle.std.specs.Prelude.{codes}
use Rattle.base_notes.specs.Names.{is_name}
use Rattle.toml.specs.View.{view, table_view}
use Rattle.read_toml.specs.Document.{range}
use Rattle.read_toml.specs.LongMarks as said
use Rattle.read_toml.proofs.Added.{key_some}
use Rattle.read_toml.proofs.Adding.{adds_none, adds_same}
use Rattle.read_toml.proofs.LongMarks.{name_text}
use Rattle.read_toml.proofs.document.faults.Faults.name.Goals as goal

pub returns-in_ok-wrong : goal.returns-in_ok-wrong
returns-in_ok-wrong c =
    let names = said.names_in (table_view c.args.fields.now.whole.now) in
    let text = c.in-Some-as_str.text.now in
    adds_same _ _ _ _
    (sym (key_some (said.name_faults names c.args.place) c.args.fields.now.at.now (codes "name")
    (table_view c.args.fields.now.table.now) (view c.in-Some.value.now) c.in-Some.ensures
    ∙ name_text names c.args.place _ (view c.in-Some.value.now) text (is_name text)
    (said.is_named (take c.args.place names) text) c.in-Some-as_str.ensures refl refl
    ∙ ap (λ (b : Bool). cond b [] (range (c.args.fields.now.at.now ++ codes "name") ∷ []))
    (sym c.in_ok-is_free_name.ensures ∙ c.if-not-branch.true)))
    c.in_ok-wrong.ensures

pub returns-else-not-branch : goal.returns-else-not-branch
returns-else-not-branch c =
    let names = said.names_in (table_view c.args.fields.now.whole.now) in
    let text = c.in-Some-as_str.text.now in
    adds_same _ _ _ _
    (sym (key_some (said.name_faults names c.args.place) c.args.fields.now.at.now (codes "name")
    (table_view c.args.fields.now.table.now) (view c.in-Some.value.now) c.in-Some.ensures
    ∙ name_text names c.args.place _ (view c.in-Some.value.now) text (is_name text)
    (said.is_named (take c.args.place names) text) c.in-Some-as_str.ensures refl refl
    ∙ ap (λ (b : Bool). cond b [] (range (c.args.fields.now.at.now ++ codes "name") ∷ []))
    (sym c.in_ok-is_free_name.ensures ∙ c.if-not-branch.false)))
    (adds_none _)
