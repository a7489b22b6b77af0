-- The ends of the hops of a table's entries, and how they raise the entries.
use Rattle.std.specs.Prelude.{◌≡◌, ℕ, ◌+◌, ◌≤◌, ◌⊎◌, List, [], ◌∷◌, slice_get, Some, Contains}
use Rattle.machine_steps.specs.Counts.{after_pass, AreWithin}
use Rattle.machine_steps.specs.Ways.{to}
use Rattle.flow_graph.specs.Hops.{Hop, hops}
use Rattle.flow_graph.specs.Walk.{Setting}
use Rattle.flow_graph.specs.Longest.{longest}
use Rattle.bound_scan.specs.Table.{number_of, start_angle, Row}

-- the end of a hop: of an entry's place and counts, the number of the hop among those of the place,
-- and the word times used when it begins and when it ends
pub record HopEnd : Type 0 where
  pub place : ℕ
  pub counts : ℕ
  pub number : ℕ
  pub begun : ℕ
  pub ended : ℕ

-- the hop of this number leads from a place
abbrev pub IsHop : Setting → ℕ → ℕ → Hop → Type 0
IsHop g place number hop = slice_get (hops g.loads g.notes place) number ≡ Some hop

-- The end is that of this hop of the entry: it begins at the entry's time and ends as late as it
-- can, from the angle behind the start's.
pub record IsHopEnd (g : Setting) (row : Row) (number : ℕ) (hop : Hop) (end : HopEnd) : Type 0 where
  pub place : end.place ≡ row.place
  pub counts : end.counts ≡ row.counts
  pub of : end.number ≡ number
  pub begun : end.begun ≡ row.time
  pub ended : start_angle g.start + end.ended
      ≡ longest g.times row.place hop.ins hop.way (start_angle g.start + row.time)

-- no two ends are of one place, counts and hop's number
abbrev pub AreUnlike : List HopEnd → Type 0
AreUnlike [] = Unit {0}
AreUnlike (end ∷ ends) =
    ((other : HopEnd) → Contains ends other → end.place ≡ other.place → end.counts ≡ other.counts
    → end.number ≡ other.number → ⊥) × AreUnlike ends

-- The ends of the hops of a table's entries: one of each hop of each entry, and none twice.
pub record AreEnds (g : Setting) (rows : List Row) (ends : List HopEnd) : Type 0 where
  pub each : (end : HopEnd) → Contains ends end → (row : Row) × (hop : Hop) × Contains rows row
      × IsHop g row.place end.number hop × IsHopEnd g row end.number hop end
  pub all : (row : Row) (number : ℕ) (hop : Hop) → Contains rows row → IsHop g row.place number hop
      → (end : HopEnd) × Contains ends end × IsHopEnd g row number hop end
  pub once : AreUnlike ends

-- An end leads to an entry: its hop goes on to the entry's place, with the entry's counts after it,
-- none above its mark's most.
pub record LeadsTo (g : Setting) (end : HopEnd) (row : Row) : Type 0 where
  pub hop : Hop
  pub of : IsHop g end.place end.number hop
  pub onto : hop.way ≡ to row.place
  pub passes : List ℕ
  pub within : AreWithin g.notes.marks passes
  pub before : number_of g.notes.marks passes ≡ end.counts
  pub unbarred : AreWithin g.notes.marks (after_pass g.notes.marks end.place row.place passes)
  pub after : number_of g.notes.marks (after_pass g.notes.marks end.place row.place passes)
      ≡ row.counts

-- the start's entry: no word times used, at the angle behind the start's, no mark passed
abbrev pub start_row : Setting → Row
start_row g = record { place = g.start; angle = start_angle g.start; counts = 0; time = 0 }

-- The entries are the start's, and of the others each has the time of an end that leads to it; no
-- end that leads to an entry is later than its time.
pub record AreRaised (g : Setting) (rows : List Row) (ends : List HopEnd) : Type 0 where
  pub start : Contains rows (start_row g)
  pub raised : (row : Row) → Contains rows row → (row ≡ start_row g)
      ⊎ ((end : HopEnd) × Contains ends end × LeadsTo g end row × (row.time ≡ end.ended))
  pub most : (row : Row) (end : HopEnd) → Contains rows row → Contains ends end → LeadsTo g end row
      → end.ended ≤ row.time
