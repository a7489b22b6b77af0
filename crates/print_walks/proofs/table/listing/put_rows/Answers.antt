use Rattle.std.proofs.Common.{List, ℕ, flat_map, ap, ◌∙◌, arith}
use Rattle.std.proofs.lemmas.List.{take_all}
use Rattle.base_notes.specs.declared.notes.mark.Mark.{Mark}
use Rattle.bound_scan.specs.declared.worst.Worst.{Worst}
use Rattle.bound_scan.specs.RowOf.{row_in}
use Rattle.print_lines.proofs.Passing.{passes_as, passes_more}
use Rattle.print_walks.specs.TableText.{row_line}
use Rattle.print_walks.proofs.table.listing.put_rows.Goals as goal

pub loop-row-preserved : goal.loop-row-preserved
loop-row-preserved g c =
    let marks = c.args.marks.now in
    passes_more (λ (row : Worst). row_line marks (row_in row)) c.args.rows.now c.loop-row.row-index c.row-item.result
    c.loop-row-test.true c.row-item.is c.loop-row.invariant
    (passes_as
    (ap (λ (some : List Mark). row_line some (row_in c.of.result.row.now)) c.of.ensures.marks
    ∙ ap (λ (row : Worst). row_line marks (row_in row)) c.of.ensures.row) c.put.ensures)

pub returns : goal.returns
returns g c =
    let line : Worst → List ℕ = λ row. row_line c.args.marks.now (row_in row) in
    passes_as (ap (flat_map line) (take_all c.loop-row.row-index c.args.rows.now (omega (arith, c.loop-row-test.false))))
    c.loop-row.invariant
