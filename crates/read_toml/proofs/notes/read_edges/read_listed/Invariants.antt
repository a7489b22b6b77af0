use Rattle.std.proofs.Common.{◌≡◌, ◌++◌, map, drop}
use Rattle.std.specs.List.{AllByRecursion}
use Rattle.toml.specs.View.{items_view}
use Rattle.base_notes.specs.EdgeOf.{edge_of}
use Rattle.read_toml.specs.Elements.{IsOnLocations}
use Rattle.read_toml.specs.LongMarks.{edges_listed}
use Rattle.read_toml.proofs.notes.read_edges.read_listed.Given as goal

abbrev pub invariant-loop-item : goal.invariant-loop-item
invariant-loop-item l = record {
  -- those so far and those that are left are all
  all : map edge_of l.edges.items ++ edges_listed (items_view (drop l.item-index l.items)) ≡ edges_listed (items_view l.items);
  -- and those that are left are between locations
  left : AllByRecursion IsOnLocations (edges_listed (items_view (drop l.item-index l.items)));
}
