use Rattle.base_notes.specs.Entries.{entry_in}
use Rattle.print_lines.proofs.Passing.{passes_as, passes_more}
use Rattle.print_hops.specs.TimedHop.{seen_timed}
use Rattle.print_walks.specs.WaitsOf.{row_text}
use Rattle.print_walks.proofs.WaitRowLines.{row_told}
use Rattle.print_walks.proofs.waits.listing.put_rows.Goals as goal

pub loop-wait-preserved : goal.loop-wait-preserved
loop-wait-preserved g c =
    let times = entry_in c.args.times.now in
    let wait = c.wait-item.result in
    passes_more (row_text times c.args.angle) c.args.rows.now c.loop-wait.wait-index wait c.loop-wait-test.true
    c.wait-item.is c.loop-wait.invariant
    (passes_as (row_told times c.args.angle wait (seen_timed c.of-told.result) c.of-told.ensures.same)
    c.put_kind.ensures)
