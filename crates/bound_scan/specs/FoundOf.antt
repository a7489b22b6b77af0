-- What a scan has found, as it is held.
use Rattle.std.specs.Prelude.{ℕ, ◌-◌, List, map}
use Rattle.std.specs.Map.{values_of}
use Rattle.bound_scan.specs.declared.scan.found.Found.{Found}
use Rattle.bound_scan.specs.InEntries.{pairs_of}
use Rattle.bound_scan.specs.RowOf.{row_in}
use Rattle.bound_scan.specs.Table.{Row}

-- the bound, in word times
abbrev pub found_bound : {L : Type 0} → Found L → ℕ
found_bound found = found.cells.last.clock - found.cells.entries.angle

-- the table of worst times
abbrev pub found_rows : {L : Type 0} → Found L → List Row
found_rows found = map row_in (values_of (pairs_of found.cells.entries))

-- how many ends of hops stand on its ledger
abbrev pub found_turns : {L : Type 0} → Found L → ℕ
found_turns found = found.steps
