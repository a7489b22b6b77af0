use Rattle.std.proofs.Common.{flat_map, take}
use Rattle.base_notes.specs.Entries.{entry_in}
use Rattle.print_lines.specs.Stands.{Passes}
use Rattle.print_ceilings.specs.RoundsWaitsOf.{row_text}
use Rattle.print_ceilings.proofs.waits.listing.put_rows.Given as goal

-- the lines so far were put
abbrev pub invariant-loop-row : goal.invariant-loop-row
invariant-loop-row g l = Passes (g.O.Output.device l.fn.writer) l.fn.sheet (g.O.Output.device l.writer) l.sheet
    (flat_map (row_text (entry_in l.times)) (take l.row-index l.rows))
