use Rattle.std.proofs.Common.{◌*◌}
use Rattle.ceiling_rows.specs.Rows.{HasEdgesOf}
use Rattle.ceiling_rows.proofs.edges.edges_of.Given as goal

-- the edges to the numbers of the bands so far
abbrev pub invariant-loop-band : goal.invariant-loop-band
invariant-loop-band l = HasEdgesOf l.marks l.from.number l.raised.onward.items 0 (l.band * 50) l.edges.items
