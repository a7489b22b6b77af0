-- Rows: what the hops of a location take at most, from when its instruction is found at an angle.
use Rattle.std.specs.Prelude.{◌≡◌, ℕ, ◌+◌, ◌%◌, ◌<◌, ◌≤◌, List, Option, Some, Contains}
use Rattle.std.specs.Prelude.{slice_get}
use Rattle.base_words.specs.Location.{IsLocation}
use Rattle.base_notes.specs.declared.notes.mark.Mark.{Mark}
use Rattle.base_notes.specs.Marks.{mark_on}
use Rattle.machine_steps.specs.Timing.{found}
use Rattle.machine_steps.specs.Ways.{to}
use Rattle.flow_graph.specs.Hops.{Hop, hops}
use Rattle.flow_graph.specs.Longest.{longest}
use Rattle.flow_graph.specs.Walk.{Setting}
use Rattle.ceiling_rows.specs.declared.raised.Onward.{Onward}
use Rattle.ceiling_rows.specs.declared.row.Edge.{Edge}
use Rattle.ceiling_rows.specs.declared.row.Row.{Row}
use Rattle.ceiling_rows.specs.Steps.{arrival}
use Rattle.ceiling_rows.specs.Marked.{LeadsNowhere}
use Rattle.ceiling_rows.specs.Steps.{TakesAtMost}
use Rattle.ceiling_rows.specs.Slot.{place_of, slot_of}

-- The edge is that of a hop to this place, and takes as long as that can.
pub record IsEdgeOf (g : Setting) (place angle : ℕ) (hop : Hop) (next : ℕ) (edge : Edge) : Type 0
  where
    pub onto : edge.onto.number ≡ slot_of next (arrival g place angle hop next % 50)
    pub mark : edge.mark ≡ mark_on g.notes.marks place next
    pub time : arrival g place angle hop next ≤ angle + edge.time
    pub stop : longest g.times place hop.ins hop.way angle + 49 ≤ angle + edge.stop

-- The row has the hop: it ends no later than the row says, less 49 word times, of all hops, and of
-- those that lead nowhere; and where it goes on, the row has its edge.
pub record Takes (g : Setting) (place angle : ℕ) (row : Row) (hop : Hop) : Type 0 where
  pub within : longest g.times place hop.ins hop.way angle + 49 ≤ angle + row.most
  pub ends : LeadsNowhere hop.way
      → longest g.times place hop.ins hop.way angle + 49 ≤ angle + row.stop
  pub goes_on : (next : ℕ) → hop.way ≡ to next → IsLocation next
      × ((edge : Edge) × Contains row.edges.items edge × IsEdgeOf g place angle hop next edge)

-- The row has all hops of the place.
abbrev pub IsRow : Setting → ℕ → ℕ → Row → Type 0
IsRow g place angle row =
    (hop : Hop) → Contains (hops g.loads g.notes place) hop → Takes g place angle row hop

-- The row is that of the location and the angle of a number; and no number that steps of these
-- locations take at most is below what it says of all of its hops.
pub record IsRowOf (g : Setting) (executed : List ℕ) (slot : ℕ) (row : Row) : Type 0 where
  pub is : IsRow g (place_of slot) (slot % 50) row
  pub low : (most : ℕ) → TakesAtMost g executed most → row.most ≤ most

-- one of these locations has the number, and is found at its angle
abbrev pub IsRowNumber : List ℕ → ℕ → Type 0
IsRowNumber executed slot =
    Contains executed (place_of slot) × (found (place_of slot) (slot % 50) ≡ slot % 50)

-- The rows that there are are those of their numbers, and each of these locations has its rows.
pub record AreRows (g : Setting) (executed : List ℕ) (rows : List (Option Row)) : Type 0 where
  pub each : (slot : ℕ) (row : Row) → slice_get rows slot ≡ Some (Some row)
      → IsRowOf g executed slot row
  pub all : (slot : ℕ) → slot < 2200 → IsRowNumber executed slot
      → (row : Row) × (slice_get rows slot ≡ Some (Some row))

-- One of the edges is that of what stands at a number.
abbrev pub HasEdge : List Mark → ℕ → List Edge → ℕ → Onward → Type 0
HasEdge marks from edges slot hop =
    (edge : Edge) × Contains edges edge × (edge.onto.number ≡ slot)
    × (edge.mark ≡ mark_on marks from (place_of slot)) × (edge.time ≡ hop.time)
    × (edge.stop ≡ hop.stop)

-- The edges of what stands at the numbers from `start` to `end`.
abbrev pub HasEdgesOf : List Mark → ℕ → List (Option Onward) → ℕ → ℕ → List Edge → Type 0
HasEdgesOf marks from onward start end edges =
    (slot : ℕ) (hop : Onward) → start ≤ slot → slot < end → slice_get onward slot ≡ Some (Some hop)
    → HasEdge marks from edges slot hop

-- The edges of what stands at the numbers.
pub record HasEdges (marks : List Mark) (from : ℕ) (onward : List (Option Onward))
    (edges : List Edge) : Type 0 where
  pub each : (slot : ℕ) (hop : Onward) → slice_get onward slot ≡ Some (Some hop)
      → HasEdge marks from edges slot hop
