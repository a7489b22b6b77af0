-- An analysis, as it is held, and when it is right.
use Rattle.std.specs.Prelude.{◌≡◌, ℕ, ◌*◌, ◌^◌, ◌<◌, ◌≤◌, List, length, map, slice_get}
use Rattle.std.specs.Prelude.{slice_index, Some}
use Rattle.read_decks.specs.declared.deck.Deck.{Deck}
use Rattle.read_decks.specs.InDeck.{loads_in, start_in}
use Rattle.base_notes.specs.declared.notes.mark.Mark.{Mark}
use Rattle.base_notes.specs.declared.times.Times.{Times}
use Rattle.base_notes.specs.Allowed.{Notes}
use Rattle.base_notes.specs.Entries.{entry_in}
use Rattle.machine_steps.specs.Counts.{no_counts}
use Rattle.machine_steps.specs.Keeps.{IsKept}
use Rattle.machine_steps.specs.Run.{Stride, IsRun, IsFirstState}
use Rattle.machine_steps.specs.Step.{State}
use Rattle.flow_graph.specs.Accepted.{counts_of, IsAccepted, IsFixed}
use Rattle.flow_graph.specs.Bounded.{IsBounded}
use Rattle.flow_graph.specs.SettingOf.{setting}
use Rattle.flow_graph.specs.Walk.{Setting, Taken, IsWalk}
use Rattle.flow_walks.specs.Visited.{Visited, AreLongest, IsWalkOf, passes_in}
use Rattle.flow_walks.specs.Visited.{seen_visit}
use Rattle.flow_walks.specs.Worst.{IsWorst}
use Rattle.bound_scan.specs.declared.analysis.Analysis.{Analysis}
use Rattle.bound_scan.specs.Counted.{turns_in}
use Rattle.bound_scan.specs.Ends.{HopEnd, AreEnds, AreRaised}
use Rattle.bound_scan.specs.RowOf.{row_in}
use Rattle.bound_scan.specs.Table.{Row, IsTable}
use Rattle.bound_scan.specs.Under.{ArriveUnder}

-- the bound, in word times
abbrev pub bound_of : Analysis → ℕ
bound_of analysis = analysis.bound

-- the table of worst times
abbrev pub rows_of : Analysis → List Row
rows_of analysis = map row_in analysis.table.items

-- the start angle of the walk
abbrev pub angle_of : Analysis → ℕ
angle_of analysis = analysis.angle

-- the hops of the walk
abbrev pub visits_of : Analysis → List Visited
visits_of analysis = map seen_visit analysis.walk.items

-- how many counts the marks can have
abbrev pub counts_in_all : Analysis → ℕ
counts_in_all analysis = analysis.counts

-- how many locations are executed
abbrev pub words_of : Analysis → ℕ
words_of analysis = analysis.words

-- how many ends of hops were made
abbrev pub turns_of : Analysis → ℕ
turns_of analysis = analysis.turns

-- how often the walk passes each mark, by its index in the notes
abbrev pub passed_of : Analysis → List ℕ
passed_of analysis = analysis.passed

-- Each mark's number is how often these hops pass it.
abbrev pub ArePasses : List Mark → List Visited → List ℕ → Type 0
ArePasses marks visits passed =
    (k : ℕ) (mark : Mark) → slice_get marks k ≡ Some mark
    → slice_index passed k ≡ passes_in mark visits

-- An analysis of the walks of a setting is right.
pub record IsAnalysis (g : Setting) (analysis : Analysis) : Type 0 where
  -- the bound is the time of some walk, and none takes longer; the walk that is handed out has it
  pub worst : IsWorst g (bound_of analysis)
  pub walk : IsWalkOf g (angle_of analysis) (bound_of analysis) (visits_of analysis)
  -- each of its hops takes as long as it can
  pub longest : AreLongest g (angle_of analysis) (visits_of analysis)
  -- the table has an entry for each location and counts that some walk arrives at; these are few
  -- (`fifty`, the limit of a table by angles too, follows from `few`), and no walk has more hops
  pub table : IsTable g (rows_of analysis)
  pub few : length (rows_of analysis) ≤ words_of analysis * counts_in_all analysis
  pub fifty : length (rows_of analysis) ≤ words_of analysis * 50 * counts_in_all analysis
  pub short : (angle : ℕ) (hops : List Taken) → IsWalk g angle hops
      → length hops ≤ words_of analysis * counts_in_all analysis
  pub counts : counts_in_all analysis ≡ counts_of g.notes.marks
  -- as many ends were made as the entries' locations have hops, and as there are ends that raise
  -- the entries
  pub turns : turns_of analysis ≡ turns_in g (rows_of analysis)
  pub ends : (ends : List HopEnd) × AreEnds g (rows_of analysis) ends
      × AreRaised g (rows_of analysis) ends × (turns_of analysis ≡ length ends)
  -- how often the walk passes each mark
  pub passed : ArePasses g.notes.marks (visits_of analysis) (passed_of analysis)
  pub below : bound_of analysis < 2 ^ 50

-- An analysis of a deck with its timing table and notes is right.
pub record IsAnalysisOf (deck : Deck) (times : Times) (notes : Notes) (analysis : Analysis) : Type
    0 where
  -- the deck with its notes is accepted, and its locations are counted
  pub accepted : (executed : List ℕ) × IsAccepted (loads_in deck) notes (start_in deck) executed
      × (words_of analysis ≡ length executed)
  -- of the walks of the flow graph it is right
  pub walks : IsAnalysis (setting deck times notes) analysis
  -- no run that keeps to the notes exceeds the bound at any moment, nor an entry where it arrives
  pub kept : IsBounded (setting deck times notes) (bound_of analysis)
  pub under : (s : State) (steps : List Stride)
      → IsFirstState (loads_in deck) (IsFixed (loads_in deck) notes (start_in deck)) (start_in deck)
      s → IsRun (entry_in times) s steps → IsKept (loads_in deck) notes s steps
      → ArriveUnder notes (rows_of analysis) (no_counts notes.marks) steps
