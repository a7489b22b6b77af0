-- How many ends of hops are counted where the table of worst times is found.
use Rattle.std.specs.Prelude.{◌≡◌, ℕ, ◌*◌, ◌^◌, ◌<◌, ◌≤◌, List, length, map, sum}
use Rattle.flow_graph.specs.Accepted.{IsAccepted, counts_of}
use Rattle.flow_graph.specs.Hops.{hops}
use Rattle.flow_graph.specs.Walk.{Setting}
use Rattle.flow_walks.specs.Worst.{IsWorst}
use Rattle.bound_scan.specs.declared.scan.found.Found.{Found}
use Rattle.bound_scan.specs.FoundOf.{found_bound, found_rows, found_turns}
use Rattle.bound_scan.specs.Table.{IsTable, Row}

-- how many hops the entries' locations have
abbrev pub turns_in : Setting → List Row → ℕ
turns_in g rows = sum (map (λ row. length (hops g.loads g.notes row.place)) rows)

-- A scan found the worst time of a walk, and the table, which has no more entries than this number
-- of words times the number of counts that the marks can have. On its ledger stand as many ends as
-- the locations of the table's entries have hops.
pub record HasFound {L : Type 0} (g : Setting) (words : ℕ) (found : Found L) : Type 0 where
  pub worst : IsWorst g (found_bound found)
  pub below : found_bound found < 2 ^ 50
  pub table : IsTable g (found_rows found)
  pub few : length (found_rows found) ≤ words * counts_of g.notes.marks
  pub turns : found_turns found ≡ turns_in g (found_rows found)

-- the same, of as many words as a deck with its notes executes
abbrev pub IsCounted : {L : Type 0} → Setting → Found L → Type 0
IsCounted g found =
    (executed : List ℕ) × IsAccepted g.loads g.notes g.start executed
    × HasFound g (length executed) found
