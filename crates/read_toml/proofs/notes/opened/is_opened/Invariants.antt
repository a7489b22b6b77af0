use Rattle.std.proofs.Common.{◌≡◌, drop}
use Rattle.std.specs.List.{list_any}
use Rattle.toml.specs.View.{items_view}
use Rattle.read_toml.specs.Calls as said
use Rattle.read_toml.specs.Opened.{opening}
use Rattle.read_toml.proofs.notes.opened.is_opened.Given as goal

abbrev pub invariant-loop-item : goal.invariant-loop-item
invariant-loop-item l =
    list_any (said.is_opening (opening l.opened)) (said.openings_said (items_view (drop l.item-index l.items)))
    ≡ list_any (said.is_opening (opening l.opened)) (said.openings_said (items_view l.items))
