-- The data addresses with which hops take longest.
use Rattle.std.specs.Prelude.{◌≡◌, ℕ, ◌%◌, ◌<◌, ◌≤◌, nat_lt}
use Rattle.base_words.specs.declared.op.Op.{Op}
use Rattle.base_words.specs.Instruction.{instruction}
use Rattle.base_words.specs.Location.{is_location}
use Rattle.base_notes.specs.declared.notes.pattern.Pattern.{Pattern}
use Rattle.base_notes.specs.Entries.{entry_in}
use Rattle.machine_steps.specs.Timing.{ready, reached}
use Rattle.machine_steps.specs.Ways.{Way, to}
use Rattle.flow_graph.specs.Longest.{most_units}
use Rattle.ceiling_rows.specs.declared.found.Found.{Found}
use Rattle.ceiling_rows.specs.Raised.{latest}

-- when an instruction of this operation is ready that is found there
abbrev pub is_ready : Found → Op → ℕ
is_ready from op = ready (entry_in from.times.now op) from.location.number from.angle

-- With D at this angle the operation has no fewer units of work than with any other D; and with
-- such a D on the drum, from the moment that it is ready it reaches its data no earlier.
pub record IsSlowestAngle (op : Op) (ready angle : ℕ) : Type 0 where
  pub units : (d other : ℕ) → d % 50 ≡ angle → most_units op other ≤ most_units op d
  pub reached : (d other : ℕ) → d % 50 ≡ angle → d < 2000
      → reached op other ready ≤ reached op d ready

-- The addresses from start to end are all of the drum, or all of the locations beside it, or none
-- is a location.
pub record AreOfOnePart (start end : ℕ) : Type 0 where
  pub drum : (d : ℕ) → start ≤ d → d < end → nat_lt d 2000 ≡ nat_lt start 2000
  pub locations : (d : ℕ) → start ≤ d → d < end → is_location d ≡ is_location start

-- Of the pattern's instructions with the addresses from start to end, none ends later by this way
-- than the one with this D; and if it goes on, then on the drum.
pub record IsSlowest (from : Found) (pattern : Pattern) (way : Way) (start end d : ℕ) : Type 0
  where
    pub low : start ≤ d
    pub high : d < end
    pub ends : (other : ℕ) → start ≤ other → other < end
        → latest from (instruction pattern.op other pattern.i) way
        ≤ latest from (instruction pattern.op d pattern.i) way
    pub on_drum : (next : ℕ) → way ≡ to next → next < 2000
