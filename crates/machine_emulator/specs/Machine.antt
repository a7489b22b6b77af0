-- What a machine is at the beginning of a step, and what its calls answer.
use Rattle.std.specs.Prelude.{◌≡◌, ℕ, Bool, List, slice_get, Option, Some, None, Contains}
use Rattle.base_words.specs.declared.location.Location.{Location}
use Rattle.base_words.specs.declared.op.Op.{Op}
use Rattle.base_words.specs.declared.op.Op.TheVariants.{Punch}
use Rattle.base_words.specs.declared.word.Word.{Word}
use Rattle.base_notes.specs.declared.entry.Entry.{Entry}
use Rattle.machine_steps.specs.declared.card.Card.{Card}
use Rattle.machine_steps.specs.declared.why.Why as whys
use Rattle.machine_steps.specs.Contents.{Contents}
use Rattle.machine_steps.specs.Effect.{punched}
use Rattle.machine_steps.specs.Ending.{own_notes, stops_by}
use Rattle.machine_steps.specs.Keeps.{reads_load}
use Rattle.machine_steps.specs.Run.{Stride}
use Rattle.machine_steps.specs.Step.{State, Stepped, on, stopped, step, fetched, instruction_in}
use Rattle.machine_steps.specs.Step.{MayWait}
use Rattle.machine_steps.specs.Ways.{Way, to, ways}
use Rattle.machine_steps.specs.Writes.{writes}
use Rattle.machine_emulator.specs.declared.feed.Feed.{Feed}
use Rattle.machine_emulator.specs.declared.machine.Machine.{Machine}
use Rattle.machine_emulator.specs.declared.step.Step.{Step}
use Rattle.machine_emulator.specs.declared.step.Step.TheVariants.{Went, Stopped}
use Rattle.machine_emulator.specs.Fed.{op_in, wait_with, cards_with, waits_with}
use Rattle.machine_emulator.specs.Feed.{cards_left, waits_left}
use Rattle.machine_emulator.specs.Registers.{contents_with}

-- the machine goes on
abbrev pub GoesOn : Machine → Type 0
GoesOn m = m.stop ≡ None

-- it has stopped, with this word fetched, for this reason
abbrev pub HasStopped : Machine → Word → whys.Why → Type 0
HasStopped m w because = m.stop ≡ Some (record { word = w; why = because })

-- where it seeks its next instruction, or sought the one at which it stopped
abbrev pub sought_by : Machine → Location
sought_by m = m.sought

-- the word times that it has used
abbrev pub used_by : Machine → ℕ
used_by m = m.used

-- what it holds, with the cards in the reader
abbrev pub held_by : Machine → List Card → Contents
held_by m cards = contents_with m.registers cards

-- the state of a machine, with these cards in the reader; of one that has stopped, with what it
-- holds then, and where it sought
abbrev pub state_in : Machine → List Card → State
state_in m cards = record {
  contents = contents_with m.registers cards;
  sought = m.sought.number;
  time = m.used;
  first_angle = m.start;
}

-- the words that an operation punches
abbrev pub punched_by : Op → State → Option (List Word)
punched_by Punch s = Some (punched s.contents (instruction_in s).d)
punched_by _ s = None

abbrev pub punched_with : Option Op → State → Option (List Word)
punched_with None s = None
punched_with (Some op) s = punched_by op s

-- What is answered of a step: where it began, the word that was fetched there, where it goes on or
-- why it stops, and the word times used; of one that goes on, whether it read a load card, and what
-- it punched.
abbrev pub Tells : Stepped → Location → Word → Bool → Option (List Word) → Step → Type 0
Tells (on next) origin word load words (Went from fetch onto used read punch) =
    (from ≡ origin) × (fetch ≡ word) × (onto.number ≡ next.sought) × (used ≡ next.time)
    × (read ≡ load) × (punch ≡ words)
Tells (on next) origin word load words (Stopped from fetch why used) = ⊥
Tells (stopped held because moment) origin word load words answer =
    answer ≡ Stopped origin word because moment

-- the answer of a step tells of this stride, which is a step of the definitions
pub record IsToldOf (times : Op → Entry) (stride : Stride) (answer : Step) : Type 0 where
  pub stepped : stride.outcome ≡ step times stride.origin stride.wait
  pub origin : Location
  pub sought : origin.number ≡ stride.origin.sought
  pub punched : Option (List Word)
  pub tells :
      Tells stride.outcome origin (fetched stride.origin) (reads_load stride.origin) punched answer

-- What the machine is after a step, with these cards left. One that has stopped seeks what it
-- sought, and holds what the step left.
abbrev pub Becomes : Stepped → Location → Word → Machine → List Card → Type 0
Becomes (on next) origin word m cards = GoesOn m × (state_in m cards ≡ next)
Becomes (stopped held because moment) origin word m cards =
    HasStopped m word because × (sought_by m ≡ origin) × (used_by m ≡ moment)
    × (contents_with m.registers cards ≡ held)

-- A machine takes a step and answers it: a step of the definitions, with the feed's cards as the
-- cards left, and the wait that the feed gives.
pub record TakesStep (times : Op → Entry) (before : Machine) (fed : Feed) (answer : Step)
    (after : Machine) (left : Feed) : Type 0 where
  pub may_wait :
      let s = state_in before (cards_left fed) in
      MayWait times (op_in s) (wait_with times (op_in s) (waits_left fed))
  pub tells :
      let s = state_in before (cards_left fed) in
      Tells (step times s (wait_with times (op_in s) (waits_left fed))) before.sought (fetched s)
      (reads_load s) (punched_with (op_in s) s) answer
  pub becomes :
      let s = state_in before (cards_left fed) in
      Becomes (step times s (wait_with times (op_in s) (waits_left fed))) before.sought (fetched s)
      after (cards_left left)
  pub cards :
      let s = state_in before (cards_left fed) in
      cards_left left ≡ cards_with (op_in s) s (cards_left fed)
  pub waits :
      let s = state_in before (cards_left fed) in
      waits_left left ≡ waits_with (op_in s) s (waits_left fed)

-- the way by which the step of an answer ended
abbrev pub way_told : Step → Way
way_told (Went from fetch onto used read punch) = to onto.number
way_told (Stopped from fetch why used) = stops_by why

-- A step alters no drum word but those that its instruction writes: what the state after it has at
-- another location, the one before had.
abbrev pub WritesAlone : State → State → Type 0
WritesAlone s next =
    (place : ℕ) → ¬ Contains (writes (instruction_in s)) place
    → slice_get next.contents.drum place ≡ slice_get s.contents.drum place

-- A step of an operation in the profile ends by one of its instruction's ways, under notes that are
-- true of this step.
abbrev pub EndsByAWay : State → Step → Type 0
EndsByAWay s answer =
    (op : Op) → op_in s ≡ Some op
    → Contains (ways (own_notes s) (instruction_in s)) (way_told answer)
