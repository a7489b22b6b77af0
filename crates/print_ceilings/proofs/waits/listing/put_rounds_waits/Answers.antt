use Rattle.std.proofs.Common.{ℕ, flat_map, ap}
use Rattle.base_notes.specs.Entries.{entry_in}
use Rattle.print_lines.proofs.Passing.{◌⊳◌, passes_as}
use Rattle.print_hops.specs.KindsOf.{waited_line}
use Rattle.print_ceilings.specs.RoundsWaitsOf.{row_text}
use Rattle.print_ceilings.proofs.waits.listing.put_rounds_waits.Goals as goal

pub returns : goal.returns
returns g c =
    passes_as (ap (flat_map (row_text (entry_in c.args.times.now))) c.rows.ensures) c.put_rows.ensures
    ⊳ passes_as (ap (λ (n : ℕ). waited_line n c.args.waits.now.waited) c.total.ensures) c.put_total.ensures
    ⊳ c.put_totals.ensures
