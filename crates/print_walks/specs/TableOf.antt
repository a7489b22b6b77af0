-- The table, as it is held.
use Rattle.std.specs.Prelude.{List, map}
use Rattle.bound_scan.specs.RowOf.{row_in}
use Rattle.bound_scan.specs.Table.{Row}
use Rattle.print_walks.specs.declared.table.Table.{Table}

abbrev pub rows_in : Table → List Row
rows_in table = map row_in table.rows.items
