use Rattle.std.proofs.Common.{◌≡◌, map, take}
use Rattle.base_notes.specs.EdgeOf.{edge_of}
use Rattle.print_graphs.specs.GraphOf.{edge_in}
use Rattle.print_graphs.proofs.closing.ClosingEdges.of.Given as goal

-- the edges so far are held
abbrev pub invariant-loop-edge : goal.invariant-loop-edge
invariant-loop-edge l = map edge_in l.ends.keys.items ≡ take l.edge-index (map edge_of l.edges)
