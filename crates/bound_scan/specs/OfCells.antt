-- An analysis of finished cells.
use Rattle.std.specs.Prelude.{◌≡◌, ℕ, ◌-◌, ◌^◌, ◌<◌, ◌≤◌, List, length}
use Rattle.std.specs.Map.{values_of}
use Rattle.flow_walks.specs.Visited.{Visited, AreInTime}
use Rattle.bound_scan.specs.declared.analysis.Analysis.{Analysis}
use Rattle.bound_scan.specs.declared.cells.Cells.{Cells}
use Rattle.bound_scan.specs.AnalysisOf.{angle_of, bound_of, counts_in_all, turns_of, words_of}
use Rattle.bound_scan.specs.InEntries.{pairs_of}

-- The walk takes as long as the latest end of these cells, from their start angle, in few hops.
pub record Backs (cells : Cells) (visits : List Visited) : Type 0 where
  pub in_time : AreInTime 0 visits (cells.last.clock - cells.entries.angle)
  pub after : cells.entries.angle ≤ cells.last.clock
  pub on_drum : cells.entries.angle < 50
  pub below : cells.last.clock - cells.entries.angle < 2 ^ 50
  pub few : length visits ≤ 4000000

-- All but the walk is that of these cells, raised by so many ends.
pub record IsOfCells (cells : Cells) (made : ℕ) (analysis : Analysis) : Type 0 where
  pub bound : bound_of analysis ≡ cells.last.clock - cells.entries.angle
  pub table : analysis.table.items ≡ values_of (pairs_of cells.entries)
  pub angle : angle_of analysis ≡ cells.entries.angle
  pub words : words_of analysis ≡ cells.words
  pub counts : counts_in_all analysis ≡ cells.counts
  pub turns : turns_of analysis ≡ made
