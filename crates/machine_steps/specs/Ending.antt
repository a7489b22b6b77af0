-- The way in which a step ends, and what notes say of one machine.
use Rattle.std.specs.Prelude.{ℕ, Bool, true, false, []}
use Rattle.base_notes.specs.declared.notes.programmed.Programmed as switches
use Rattle.base_notes.specs.declared.notes.programmed.Programmed.TheVariants as switch
use Rattle.base_notes.specs.Allowed.{Notes}
use Rattle.machine_steps.specs.declared.why.Why as whys
use Rattle.machine_steps.specs.declared.why.Why.TheVariants as why
use Rattle.machine_steps.specs.Keeps.{is_load}
use Rattle.machine_steps.specs.Step.{State, Stepped, on, stopped}
use Rattle.machine_steps.specs.Ways.{Way, early, to, late}

-- a D that isn't what is wanted, and no card, stop when the instruction is ready; an operation
-- outside the profile stops when it is found, and counts as late here; all else stops at the end
abbrev pub stops_by : whys.Why → Way
stops_by why.Operand = early
stops_by why.Card = early
stops_by why.Operation = late
stops_by why.Quotient = late
stops_by why.Overflow = late
stops_by why.Digit = late
stops_by why.Programmed = late
stops_by why.Next = late

-- the way in which a step ended (one of an operation outside the profile has none of its own)
abbrev pub ended_by : Stepped → Way
ended_by (on next) = to next.sought
ended_by (stopped held because moment) = stops_by because

-- the clock at which a step ends by a way: x for Early, else e
abbrev pub clock_by : Way → ℕ → ℕ → ℕ
clock_by early x e = x
clock_by (to next) x e = e
clock_by late x e = e

-- the declaration that a switch is at STOP, or isn't
abbrev pub declared : Bool → switches.Programmed
declared true = switch.Stop
declared false = switch.Run

-- Notes that are true of one step: the machine's own switch, and load cards where its next card is
-- one.
abbrev pub own_notes : State → Notes
own_notes s = record {
  programmed = declared s.contents.programmed_stops;
  load_cards = is_load s.contents.cards;
  marks = [];
  lists = [];
  calls = [];
}
