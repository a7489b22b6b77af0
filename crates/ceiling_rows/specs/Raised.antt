-- The latest ends of the hops that were looked at, of a location whose instruction is found at an
-- angle.
use Rattle.std.specs.Prelude.{◌≡◌, ℕ, ◌+◌, ◌%◌, ◌≤◌, List, Option, Some, None, All, Contains}
use Rattle.std.specs.Prelude.{slice_get}
use Rattle.base_words.specs.declared.instruction.Instruction.{Instruction}
use Rattle.base_words.specs.Location.{IsLocation}
use Rattle.base_notes.specs.Entries.{entry_in}
use Rattle.machine_steps.specs.Timing.{found}
use Rattle.machine_steps.specs.Ways.{Way, to, ways}
use Rattle.flow_graph.specs.Longest.{longest}
use Rattle.ceiling_rows.specs.declared.found.Found.{Found}
use Rattle.ceiling_rows.specs.declared.raised.Onward.{Onward}
use Rattle.ceiling_rows.specs.declared.raised.Raised.{Raised}
use Rattle.ceiling_rows.specs.declared.row.Edge.{Edge}
use Rattle.ceiling_rows.specs.Marked.{LeadsNowhere}
use Rattle.ceiling_rows.specs.Slot.{slot_of}

-- What stands at the number of this place, where it is found at this clock, is no less, and neither
-- is the most until a hop ends that leads there.
abbrev pub IsReachedBy : List (Option Onward) → ℕ → ℕ → ℕ → ℕ → Type 0
IsReachedBy onward next angle clock ended =
    (hop : Onward) × (slice_get onward (slot_of next (clock % 50)) ≡ Some (Some hop))
    × (clock ≤ angle + hop.time) × (ended + 49 ≤ angle + hop.stop)

-- when a hop of the location ends at the latest, from when its instruction is found
abbrev pub latest : Found → Instruction → Way → ℕ
latest from ins way =
    longest (entry_in from.times.now) from.location.number ins way from.angle

-- The hop was looked at: what is kept is no less than what it takes, with 49 word times more till
-- it ends.
pub record IsRaised (from : Found) (raised : Raised) (ins : Instruction) (way : Way) : Type 0 where
  pub within : latest from ins way + 49 ≤ from.angle + raised.most
  pub ends : LeadsNowhere way → latest from ins way + 49 ≤ from.angle + raised.stop
  pub goes_on : (next : ℕ) → way ≡ to next → IsLocation next
      × IsReachedBy raised.onward.items next from.angle (found next (latest from ins way))
      (latest from ins way)

-- So were all hops of an instruction.
abbrev pub HasTaken : Found → Raised → Instruction → Type 0
HasTaken from raised ins =
    (way : Way) → Contains (ways from.notes.now ins) way → IsRaised from raised ins way

-- No hop of the instruction takes more, with 49 word times.
abbrev pub TakesNoMore : Found → ℕ → Instruction → Type 0
TakesNoMore from most ins = (way : Way) → Contains (ways from.notes.now ins) way
    → latest from ins way + 49 ≤ from.angle + most

-- None was looked at.
pub record HasNone (raised : Raised) : Type 0 where
  pub stop : raised.stop ≡ 0
  pub most : raised.most ≡ 0
  pub onward : All (λ most. most ≡ None) raised.onward.items

-- Where anything stands at a number, one of the edges leads there.
abbrev pub AreLedTo : List (Option Onward) → List Edge → Type 0
AreLedTo onward edges = (slot : ℕ) (hop : Onward) → slice_get onward slot ≡ Some (Some hop)
    → (edge : Edge) × Contains edges edge × (edge.onto.number ≡ slot)

-- What is kept never falls.
pub record GrowsTo (before after : Raised) : Type 0 where
  pub stop : before.stop ≤ after.stop
  pub most : before.most ≤ after.most
  pub onward : (slot : ℕ) (hop : Onward) → slice_get before.onward.items slot ≡ Some (Some hop)
      → (later : Onward) × (slice_get after.onward.items slot ≡ Some (Some later))
      × (hop.time ≤ later.time) × (hop.stop ≤ later.stop)
