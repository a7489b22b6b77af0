use Rattle.std.proofs.Common.{◌≡◌, ◌++◌, map, drop}
use Rattle.std.specs.Prelude.{codes, flat_map}
use Rattle.toml.specs.View.{items_view}
use Rattle.read_toml.specs.Document.{locations_at}
use Rattle.read_toml.specs.NotesDocument as said
use Rattle.read_toml.proofs.notes.repeated_faults.places_of.Given as goal

-- those so far and those that are left are all
abbrev pub invariant-loop-item : goal.invariant-loop-item
invariant-loop-item l =
    map (λ place. place.number) l.places.items
    ++ flat_map (locations_at (codes "location")) (said.tables_of (items_view (drop l.item-index l.items)))
    ≡ flat_map (locations_at (codes "location")) (said.tables_of (items_view l.items))
