use Rattle.std.proofs.Common.{refl, ap, ◌∙◌, take}
use Rattle.read_toml.specs.Calls.{opening_said, openings_said}
use Rattle.read_toml.proofs.Naming.{said_first}
use Rattle.toml.specs.Data.{Items}
use Rattle.read_toml.proofs.notes.opened.first_calls.Goals as goal

pub returns : goal.returns
returns c =
    let count = c.args.count in
    said_first opening_said openings_said refl (λ value items. refl) count c.min.result c.items-all.result.now
    c.min.ensures
    ∙ ap (λ (items : Items). take count (openings_said items)) c.items-all.ensures
