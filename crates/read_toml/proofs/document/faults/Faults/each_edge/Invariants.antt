use Rattle.std.proofs.Common.{◌+◌, drop}
use Rattle.toml.specs.View.{items_view}
use Rattle.read_toml.specs.LongMarks as said
use Rattle.read_toml.proofs.Adding.{Left}
use Rattle.read_toml.proofs.document.faults.Faults.each_edge.Given as goal

-- those of the edges so far have been added
abbrev pub invariant-loop-place : goal.invariant-loop-place
invariant-loop-place l =
    Left l.initial.self.all.items l.self.all.items
    (said.listed_edge_faults l.path (l.place + 1) (items_view (drop l.place l.items)))
    (said.listed_edge_faults l.path 1 (items_view l.items))
