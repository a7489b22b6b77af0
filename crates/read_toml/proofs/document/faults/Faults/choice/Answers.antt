use Rattle.std.proofs.Common.{◌++◌, map, sym, ◌∙◌, arith}
use Rattle.std.proofs.lemmas.Grind.{common_steps}
use Rattle.toml.specs.View.{view, table_view}
use Rattle.read_toml.specs.Document.{text_faults}
use Rattle.read_toml.proofs.Added.{key_some}
use Rattle.read_toml.proofs.Adding.{adds_same, adds_none}
use Rattle.read_toml.proofs.Choices.{choice_is_right}
use Rattle.read_toml.proofs.document.faults.Faults.choice.Goals as goal

pub returns-in_default-choice : goal.returns-in_default-choice
returns-in_default-choice g c =
    let at = c.args.fields.now.at.now in
    let key = c.args.key.now in
    adds_same _ _ _ _
    (sym (key_some (λ path value. text_faults path (map (λ choice. choice.0.now) c.args.choices.now) value) at key
    (table_view c.args.fields.now.table.now) (view c.in-Some.value.now) c.in-Some.ensures
    ∙ choice_is_right c.args.choices.now (at ++ key) (view c.in-Some.value.now) c.in_default-choice.field-0
    c.in_default-choice.ensures.found))
    (adds_none _)

pub returns-in_default : goal.returns-in_default
returns-in_default g c = grind (arith, common_steps)
