-- The numbers of an edge's locations.
use Rattle.std.specs.Prelude.{ℕ}
use Rattle.base_notes.specs.declared.notes.edge.Edge.{Edge}

abbrev pub edge_of : Edge → ℕ × ℕ
edge_of edge = (edge.from.number, edge.onto.number)
