use Rattle.std.proofs.Common.{◌≡◌, map, drop}
use Rattle.base_notes.specs.EdgeOf.{edge_of}
use Rattle.read_toml.specs.NotesDocument as said
use Rattle.read_toml.proofs.notes.repeated_faults.has_edge.Given as goal

abbrev pub invariant-loop-one : goal.invariant-loop-one
invariant-loop-one l =
    said.has_edge (map edge_of (drop l.one-index l.edges)) (edge_of l.edge)
    ≡ said.has_edge (map edge_of l.edges) (edge_of l.edge)
