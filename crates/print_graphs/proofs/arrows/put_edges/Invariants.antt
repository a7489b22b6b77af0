use Rattle.std.proofs.Common.{flat_map, take}
use Rattle.flow_graph.specs.Found.{places_of}
use Rattle.print_lines.specs.Stands.{Passes}
use Rattle.print_graphs.specs.GraphOf.{edges_in, node_of}
use Rattle.print_graphs.specs.GraphText.{edge_text}
use Rattle.print_graphs.proofs.arrows.put_edges.Given as goal

-- the lines of the edges so far were put
abbrev pub invariant-loop-next : goal.invariant-loop-next
invariant-loop-next g l =
    Passes (g.O.Output.device l.fn.writer) l.fn.sheet (g.O.Output.device l.writer) l.sheet
    (flat_map (edge_text l.marks (edges_in l.loops) (node_of l.node)) (take l.next-index (places_of l.node.nexts)))
