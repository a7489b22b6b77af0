-- Of RowLine's put: the counts are those that the row's number stands for.
use Rattle.std.proofs.Common.{List, ℕ, ◌++◌, append_assoc, flat_map, ap, sym}
use Rattle.std.specs.Prelude.{codes, decimal}
use Rattle.base_words.specs.Numeral.{digits_of}
use Rattle.bound_scan.specs.RowOf.{row_in}
use Rattle.bound_scan.specs.Table.{counts_for}
use Rattle.print_lines.proofs.Passing.{◌⊳◌, passes_as}
use Rattle.print_walks.specs.TableText.{count_text}
use Rattle.print_walks.proofs.table.line.RowLineLine.put.Goals as goal

pub returns : goal.returns
returns g c =
    let row = row_in c.args.self.now.row.now in
    let begin : List ℕ =
    digits_of 4 row.place ++ codes " angle " ++ decimal row.angle ++ codes " counts"
    ++ flat_map count_text (counts_for c.args.self.now.marks.now row.counts) in
    passes_as (sym (append_assoc begin (codes " time ") (decimal row.time)))
    (c.put_place.ensures ⊳ passes_as (ap (flat_map count_text) c.passes-counts.ensures) c.put_counts.ensures
    ⊳ c.put_named.ensures)
    ⊳ c.put.ensures
