use Rattle.std.proofs.Common.{flat_map, take}
use Rattle.bound_scan.specs.declared.worst.Worst.{Worst}
use Rattle.bound_scan.specs.RowOf.{row_in}
use Rattle.print_lines.specs.Stands.{Passes}
use Rattle.print_walks.specs.TableText.{row_line}
use Rattle.print_walks.proofs.table.listing.put_rows.Given as goal

-- the lines of the entries so far were put
abbrev pub invariant-loop-row : goal.invariant-loop-row
invariant-loop-row g l =
    Passes (g.O.Output.device l.fn.writer) l.fn.sheet (g.O.Output.device l.writer) l.sheet
    (flat_map (λ (row : Worst). row_line l.marks (row_in row)) (take l.row-index l.rows))
