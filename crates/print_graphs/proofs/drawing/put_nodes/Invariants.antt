use Rattle.std.proofs.Common.{flat_map, take}
use Rattle.print_lines.specs.Stands.{Passes}
use Rattle.print_graphs.specs.GraphOf.{loops_in, nodes_in}
use Rattle.print_graphs.specs.GraphText.{node_text}
use Rattle.print_graphs.proofs.drawing.put_nodes.Given as goal

-- the lines of the nodes so far were put
abbrev pub invariant-loop-node : goal.invariant-loop-node
invariant-loop-node g l =
    Passes (g.O.Output.device l.fn.writer) l.fn.sheet (g.O.Output.device l.writer) l.sheet
    (flat_map (node_text l.marks (loops_in l.graph)) (take l.node-index (nodes_in l.graph)))
