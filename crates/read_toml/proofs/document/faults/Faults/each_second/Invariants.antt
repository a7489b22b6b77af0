use Rattle.std.proofs.Common.{[], map, drop, take}
use Rattle.base_notes.specs.EdgeOf.{edge_of}
use Rattle.read_toml.specs.NotesDocument as said
use Rattle.read_toml.proofs.Adding.{Left}
use Rattle.read_toml.proofs.document.faults.Faults.each_second.Given as goal

-- those of the edges so far have been added
abbrev pub invariant-loop-place : goal.invariant-loop-place
invariant-loop-place l =
    Left l.initial.self.all.items l.self.all.items
    (said.edge_faults (map edge_of (take l.place l.edges)) (map edge_of (drop l.place l.edges)))
    (said.edge_faults [] (map edge_of l.edges))
