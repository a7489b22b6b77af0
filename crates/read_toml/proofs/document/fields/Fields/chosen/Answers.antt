use Rattle.std.proofs.Common.{◌≡◌, List, [], ◌∷◌, map, Some, sym, ap, ◌∙◌}
use Rattle.toml.specs.View.{view}
use Rattle.read_toml.specs.Document.{Fault, text_faults}
use Rattle.read_toml.specs.Value.{fault_of}
use Rattle.read_toml.proofs.Choices.{choice_is_right}
use Rattle.read_toml.proofs.document.fields.Fields.chosen.Goals as goal

pub unreachable-requires-in_default-choice : goal.unreachable-requires-in_default-choice
unreachable-requires-in_default-choice g c =
    let said = c.requires in
    let same : Some (view c.in-Some.value.now) ≡ Some said.0 = c.in-Some.ensures ∙ said.1 in
    let is : view c.in-Some.value.now ≡ said.0 = cc in
    let bad : ◌≡◌ {A = List Fault} [] (fault_of c.in_default-choice.field-0 [] ∷ []) =
    sym (choice_is_right c.args.choices.now [] said.0 said.2.0 said.2.1)
    ∙ ap (text_faults [] (map (λ choice. choice.0.now) c.args.choices.now)) (sym is)
    ∙ c.in_default-choice.ensures.wrong [] in
    cc
