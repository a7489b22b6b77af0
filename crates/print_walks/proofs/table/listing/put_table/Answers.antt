use Rattle.std.proofs.Common.{ap, ◌∙◌, flat_map}
use Rattle.bound_scan.specs.declared.worst.Worst.{Worst}
use Rattle.bound_scan.specs.RowOf.{row_in}
use Rattle.print_lines.proofs.Passing.{passes_as}
use Rattle.print_hops.proofs.Lines.{flat_map_map}
use Rattle.print_walks.specs.TableText.{row_line}
use Rattle.print_walks.proofs.table.listing.put_table.Goals as goal

pub returns : goal.returns
returns g c =
    let marks = c.args.marks.now in
    passes_as
    (ap (flat_map (λ (row : Worst). row_line marks (row_in row))) c.deref.ensures.value
    ∙ flat_map_map (row_line marks) row_in c.args.table.now.rows.items) c.put_rows.ensures
