use Rattle.std.proofs.Common.{flat_map, take}
use Rattle.base_notes.specs.Entries.{entry_in}
use Rattle.print_lines.specs.Stands.{Passes}
use Rattle.print_walks.specs.WaitsOf.{row_text}
use Rattle.print_walks.proofs.waits.listing.put_rows.Given as goal

-- the lines of the rows so far were put
abbrev pub invariant-loop-wait : goal.invariant-loop-wait
invariant-loop-wait g l =
    Passes (g.O.Output.device l.fn.writer) l.fn.sheet (g.O.Output.device l.writer) l.sheet
    (flat_map (row_text (entry_in l.times) l.angle) (take l.wait-index l.rows))
