use Rattle.std.proofs.Common.{map, take}
use Rattle.std.specs.Prelude.{Contains}
use Rattle.base_notes.specs.EdgeOf.{edge_of}
use Rattle.flow_loops.proofs.beside.has_edge.Given as goal

-- none so far leads so
abbrev pub invariant-loop-edge : goal.invariant-loop-edge
invariant-loop-edge l = ¬ Contains (map edge_of (take l.edge-index l.edges)) (l.from.number, l.onto.number)
