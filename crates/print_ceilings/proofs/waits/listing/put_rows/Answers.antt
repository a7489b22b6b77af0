use Rattle.base_notes.specs.Entries.{entry_in}
use Rattle.print_lines.proofs.Passing.{passes_more}
use Rattle.print_ceilings.specs.RoundsWaitsOf.{row_text}
use Rattle.print_ceilings.proofs.waits.listing.put_rows.Goals as goal

pub loop-row-preserved : goal.loop-row-preserved
loop-row-preserved g c =
    passes_more (row_text (entry_in c.args.times.now)) c.args.rows.now c.loop-row.row-index c.row-item.result
    c.loop-row-test.true c.row-item.is c.loop-row.invariant c.put_kind.ensures
