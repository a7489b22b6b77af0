use Rattle.std.proofs.Common.{option_map, ap, ◌∙◌}
use Rattle.toml.specs.View.{view}
use Rattle.toml.proofs.Views.{view_of_ref, view-lookup}
use Rattle.read_toml.proofs.document.fields.member.Goals as goal

pub returns : goal.returns
returns c =
    view_of_ref c.get.result ∙ ap (option_map view) c.get.ensures.value
    ∙ view-lookup c.args.key.now c.args.table.now.entries
