use Rattle.std.proofs.Common.{◌≡◌, flat_map, map, take}
use Rattle.base_notes.specs.EdgeOf.{edge_of}
use Rattle.base_notes.specs.Marks.{edges_of}
use Rattle.check_findings.proofs.edges.marked_edges.Given as goal

-- the edges of the marks so far
abbrev pub invariant-loop-mark : goal.invariant-loop-mark
invariant-loop-mark l = map edge_of l.edges.items ≡ flat_map edges_of (take l.mark-index l.flow.notes.now.marks)
