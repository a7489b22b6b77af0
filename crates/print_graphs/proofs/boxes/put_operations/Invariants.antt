use Rattle.std.proofs.Common.{flat_map, take}
use Rattle.print_lines.specs.Stands.{Passes}
use Rattle.print_graphs.specs.GraphText.{operation_text}
use Rattle.print_graphs.proofs.boxes.put_operations.Given as goal

-- the operations so far were put
abbrev pub invariant-loop-op : goal.invariant-loop-op
invariant-loop-op g l =
    Passes (g.O.Output.device l.fn.writer) l.fn.sheet (g.O.Output.device l.writer) l.sheet
    (flat_map operation_text (take l.op-index l.operations))
