use Rattle.std.proofs.Common.{refl, ap, ◌∙◌, take}
use Rattle.read_toml.specs.LongMarks.{name_said, names_said}
use Rattle.read_toml.proofs.Naming.{said_first}
use Rattle.toml.specs.Data.{Items}
use Rattle.read_toml.proofs.notes.named.first_marks.Goals as goal

pub returns : goal.returns
returns c =
    let count = c.args.count in
    said_first name_said names_said refl (λ value items. refl) count c.min.result c.items-all.result.now
    c.min.ensures
    ∙ ap (λ (items : Items). take count (names_said items)) c.items-all.ensures
