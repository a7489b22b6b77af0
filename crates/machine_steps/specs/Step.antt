-- A step of the machine, and when it ends (IBM 650 Manual of Operation, but for the moments).
use Rattle.std.specs.Prelude.{◌≡◌, ℕ, ◌+◌, ◌-◌, Bool, true, false, not, ◌&&◌, if◌then◌else◌, List}
use Rattle.std.specs.Prelude.{[], ◌∷◌, Option, Some, None}
use Rattle.base_words.specs.declared.instruction.Instruction.{Instruction}
use Rattle.base_words.specs.declared.op.Op.{Op}
use Rattle.base_words.specs.declared.op.Op.TheVariants.{Read}
use Rattle.base_words.specs.declared.word.Word.{Word}
use Rattle.base_words.specs.Instruction.{instruction_of}
use Rattle.base_words.specs.Location.{is_location}
use Rattle.base_words.specs.Op.{op_of, operand_of, is_operand}
use Rattle.base_notes.specs.declared.entry.Entry.{Entry}
use Rattle.machine_steps.specs.declared.card.Card.{Card}
use Rattle.machine_steps.specs.declared.why.Why as whys
use Rattle.machine_steps.specs.declared.why.Why.TheVariants as why
use Rattle.machine_steps.specs.Contents.{Contents, word_at}
use Rattle.machine_steps.specs.Effect.{Outcome, goes, stops, effect}
use Rattle.machine_steps.specs.Timing.{found, ready, ended, units_of, IsWait}

-- a machine at the beginning of a step
pub record State : Type 0 where
  pub contents : Contents
  -- the number of the location that is sought
  pub sought : ℕ
  -- the word times used
  pub time : ℕ
  -- the drum's angle at time 0
  pub first_angle : ℕ

-- A step goes on to a state, or it stops: with what the machine that has stopped holds, why, and
-- the word times used.
pub data Stepped : Type 0 where
  on : State → Stepped
  stopped : Contents → whys.Why → ℕ → Stepped

-- what the machine holds after a step
abbrev pub contents_after : Stepped → Contents
contents_after (on next) = next.contents
contents_after (stopped held because moment) = held

-- the drum's clock in a state: its angle is the rest of its division by 50
abbrev pub clock_of : State → ℕ
clock_of s = s.first_angle + s.time

-- the word that is fetched, and its instruction
abbrev pub fetched : State → Word
fetched s = word_at s.contents s.sought

abbrev pub instruction_in : State → Instruction
instruction_in s = instruction_of (fetched s)

abbrev pub is_read : Op → Bool
is_read Read = true
is_read _ = false

abbrev pub has_cards : List Card → Bool
has_cards [] = false
has_cards (card ∷ cards) = true

-- 70 with no card left
abbrev pub lacks_card : Op → Contents → Bool
lacks_card op c = is_read op && not (has_cards c.cards)

-- the step of an outcome, at the clock at which the step ends
abbrev pub stepped_by : State → ℕ → Outcome → Stepped
stepped_by s clock (stops c because) = stopped c because (clock - s.first_angle)
stepped_by s clock (goes c next) =
    let used = clock - s.first_angle in
    if is_location next
    then on (record { contents = c; sought = next; time = used; first_angle = s.first_angle })
    else stopped c why.Next used

-- The step of an operation, with a wait for the card machine: it stops when it is ready if D isn't
-- what the operation wants, or if there is no card, and nothing changes; else it comes to its end.
abbrev pub step_of : (Op → Entry) → State → ℕ → Op → Stepped
step_of times s wait op =
    let ins = instruction_in s in
    let entry = times op in
    let x = ready entry s.sought (clock_of s) in
    if not (is_operand (operand_of op) ins.d)
    then stopped s.contents why.Operand (x - s.first_angle)
    else (if lacks_card op s.contents then stopped s.contents why.Card (x - s.first_angle)
    else
    (let units = units_of op ins.d s.contents in
    stepped_by s (ended entry op ins.d s.sought units wait (clock_of s))
    (effect s.contents op ins.d ins.i)))

-- a step, where the fetched operation may be outside the profile: then it stops when it is found,
-- and nothing changes
abbrev pub step_with : (Op → Entry) → State → ℕ → Option Op → Stepped
step_with times s wait None =
    stopped s.contents why.Operation (found s.sought (clock_of s) - s.first_angle)
step_with times s wait (Some op) = step_of times s wait op

abbrev pub step : (Op → Entry) → State → ℕ → Stepped
step times s wait = step_with times s wait (op_of (instruction_in s).op)

-- the wait is one that the fetched operation may have
abbrev pub MayWait : (Op → Entry) → Option Op → ℕ → Type 0
MayWait times None wait = wait ≡ 0
MayWait times (Some op) wait = IsWait op (times op) wait
