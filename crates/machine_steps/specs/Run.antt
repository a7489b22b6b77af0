-- Runs (IBM 650 Manual of Operation).
use Rattle.std.specs.Prelude.{◌≡◌, ℕ, ◌^◌, ◌<◌, List, [], ◌∷◌, length, unsigned_abs, Option, Some}
use Rattle.base_words.specs.declared.op.Op.{Op}
use Rattle.base_words.specs.declared.word.Word.{Word}
use Rattle.base_words.specs.Op.{op_of}
use Rattle.base_notes.specs.declared.entry.Entry.{Entry}
use Rattle.machine_steps.specs.Contents.{Contents, word_at}
use Rattle.machine_steps.specs.Step.{State, Stepped, on, stopped, step, MayWait, instruction_in}

-- a step of a run: where it begins, how long the card machine keeps it waiting, and where it
-- ends
pub record Stride : Type 0 where
  pub origin : State
  pub wait : ℕ
  pub outcome : Stepped

-- the stride is a step from this state
pub record IsStride (times : Op → Entry) (s : State) (stride : Stride) : Type 0 where
  pub from_here : stride.origin ≡ s
  -- any wait of the entry's range (`IsWait` of `Timing`)
  pub may_wait : MayWait times (op_of (instruction_in s).op) stride.wait
  pub stepped : stride.outcome ≡ step times s stride.wait

-- nothing follows a stop, and what follows a step that goes on is right for the state that it left
abbrev pub FollowStep : Stepped → (State → Type 0) → List Stride → Type 0
FollowStep (on next) Right strides = Right next
FollowStep (stopped held because moment) Right strides = strides ≡ []

-- A run from a state: each stride is a step from the state that the one before left, and only the
-- last may stop.
abbrev pub IsRun : (Op → Entry) → State → List Stride → Type 0
IsRun times s [] = Unit {0}
IsRun times s (stride ∷ strides) =
    IsStride times s stride × FollowStep stride.outcome (λ next. IsRun times next strides) strides

-- the word times used at the end of a step
abbrev pub time_after : Stepped → ℕ
time_after (on s) = s.time
time_after (stopped held why moment) = moment

-- the word times used after a run that begins with `time` word times used
abbrev pub used_from : ℕ → List Stride → ℕ
used_from time [] = time
used_from time (stride ∷ strides) = used_from (time_after stride.outcome) strides

-- the contents are within their limits: 2000 words on the drum, twenty digits in the accumulator
pub record IsWhole (c : Contents) : Type 0 where
  pub drum : length c.drum ≡ 2000
  pub accumulator : unsigned_abs c.accumulator < 10 ^ 20

-- A state in which a run may begin: at time 0, seeking this location from some angle, with contents
-- within their limits, and with the deck's word at each of some locations that the deck loads. All
-- else in it is free.
pub record IsFirstState (loads : ℕ → Option Word) (Agreed : ℕ → Type 0) (start_location : ℕ)
    (s : State) : Type 0 where
  pub at_once : s.time ≡ 0
  pub seeks : s.sought ≡ start_location
  pub angle : s.first_angle < 50
  pub whole : IsWhole s.contents
  pub agrees : (place : ℕ) (w : Word) → Agreed place → loads place ≡ Some w
      → word_at s.contents place ≡ w
