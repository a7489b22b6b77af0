-- Of put_waits: the rows are those of the kinds, the dearest first, and beside them is what all
-- hops wait.
use Rattle.std.proofs.Common.{ℕ, ap, ◌∙◌}
use Rattle.base_notes.specs.Entries.{entry_in}
use Rattle.bound_scan.specs.AnalysisOf.{angle_of, bound_of, visits_of}
use Rattle.print_lines.specs.BoundText.{bound_text}
use Rattle.print_lines.proofs.Passing.{◌⊳◌, passes_as}
use Rattle.print_hops.specs.KindsOf.{waited_line}
use Rattle.print_walks.proofs.WaitRowLines.{rows_told}
use Rattle.print_walks.proofs.waits.listing.put_waits.Goals as goal

pub returns : goal.returns
returns g c are =
    let analysis = c.args.analysis.now in
    let waits = c.args.waits.now in
    let bound = c.bound-bound.ensures.told in
    passes_as
    (rows_told (entry_in c.args.times.now) c.angle.result (angle_of analysis) (visits_of analysis) waits
    c.rows.result.now c.angle.ensures c.rows.ensures are) c.put_rows.ensures
    ⊳ passes_as
    (ap (λ (time : ℕ). waited_line time waits.waited) (c.from.ensures ∙ bound)
    ∙ ap (waited_line (bound_of analysis)) are.waited) c.put_total.ensures
    ⊳ passes_as (ap bound_text bound) c.put_bound.ensures
