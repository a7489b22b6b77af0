use Rattle.std.specs.Prelude.{Contains}
use Rattle.ceiling_rows.specs.declared.row.Edge.{Edge}
use Rattle.ceiling_rows.specs.Rows.{HasEdgesOf}
use Rattle.ceiling_rows.proofs.edges.add_band.Given as goal

-- the edges to the numbers so far, and those from before
abbrev pub invariant-loop-number : goal.invariant-loop-number
invariant-loop-number l = record {
  added : HasEdgesOf l.marks l.from.number l.onward l.start l.number l.edges.items;
  kept : (edge : Edge) → Contains l.fn.edges.items edge → Contains l.edges.items edge;
}
