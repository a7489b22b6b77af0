-- The rows of a table: of an entry as the code has it, and of a key of a scan.
use Rattle.std.specs.Prelude.{ℕ, ◌-◌, ◌%◌, List}
use Rattle.base_notes.specs.declared.notes.mark.Mark.{Mark}
use Rattle.flow_graph.specs.Walk.{Setting}
use Rattle.bound_scan.specs.declared.latest.Latest.{Latest}
use Rattle.bound_scan.specs.declared.worst.Worst.{Worst}
use Rattle.bound_scan.specs.Keys.{place_at, counts_at}
use Rattle.bound_scan.specs.Table.{start_angle, number_of, Row}

-- an entry as the code has it
abbrev pub row_in : Worst → Row
row_in worst = record {
  place = worst.place.number;
  angle = worst.angle;
  counts =
      worst.counts;
  time = worst.time;
}

-- the number of a key's counts
abbrev pub counts_number : List Mark → List ℕ → ℕ → ℕ
counts_number marks order key = number_of marks (counts_at marks order key)

-- the row of a key
abbrev pub row_of : Setting → List ℕ → ℕ → Latest → Row
row_of g order key kept = record {
  place = place_at order key;
  angle = kept.clock % 50;
  counts = counts_number g.notes.marks order key;
  time = kept.clock - start_angle g.start;
}
