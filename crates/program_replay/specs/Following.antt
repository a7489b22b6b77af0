-- What is needed to follow a run, and what is known of it on the way and at its end.
use Rattle.std.specs.Prelude.{◌≡◌, ℕ, ◌+◌, ◌≤◌, List, [], ◌∷◌, ◌++◌, length, None}
use Rattle.base_words.specs.declared.op.Op.{Op}
use Rattle.base_notes.specs.declared.entry.Entry.{Entry}
use Rattle.machine_steps.specs.Keeps.{IsAsDeclared}
use Rattle.machine_steps.specs.Run.{Stride, IsStride, IsFirstState}
use Rattle.machine_steps.specs.Step.{State, Stepped, on, stopped, step}
use Rattle.machine_emulator.specs.Feed.{cards_left, waits_left}
use Rattle.machine_emulator.specs.FirstState.{IsSetUp}
use Rattle.machine_emulator.specs.Fed.{op_in, wait_with, waits_with}
use Rattle.machine_emulator.specs.Machine.{GoesOn, state_in, used_by}
use Rattle.machine_emulator.specs.Monitor.{HasSeenKept, answer_of}
use Rattle.flow_graph.specs.Accepted.{IsFixed}
use Rattle.flow_graph.specs.Walk.{Setting}
use Rattle.machine_steps.specs.declared.verdict.Verdict.{Verdict}
use Rattle.program_replay.specs.declared.following.Following.{Following}
use Rattle.program_replay.specs.Replay.{Given, IsReplayed, IsUnderWay, IsVerdict, used_in}

-- a state in which a kept run may begin
pub record CanBegin (g : Setting) (s : State) : Type 0 where
  pub first : IsFirstState g.loads (IsFixed g.loads g.notes g.start) g.start s
  pub declared : IsAsDeclared g.notes.programmed s.contents.programmed_stops

-- the state and the waits are what is given
pub record AreGiven (g : Setting) (given : Given) (s : State) (waits : List ℕ) : Type 0 where
  pub set_up : IsSetUp g.loads g.start given.setup s
  pub reader : s.contents.cards ≡ given.cards
  pub feed : waits ≡ given.waits

-- the strides are the first of the run that begins in this state with these waits
abbrev pub AreOfRun : Setting → State → List ℕ → List Stride → Type 0
AreOfRun g s waits strides =
    (given : Given) → AreGiven g given s waits → IsReplayed g given strides

-- and they are under way up to the last of them
abbrev pub AreUnderWay : Setting → State → List ℕ → List Stride → Type 0
AreUnderWay g s waits strides =
    (before : List Stride) × (last : Stride) × (strides ≡ before ++ last ∷ [])
    × ((given : Given) → AreGiven g given s waits → IsUnderWay g given before last)

-- The verdict is that on the run which begins in this state with these waits, it comes with the
-- last of these strides of it, and no time in it is past what kept runs use.
pub record IsFollowed (g : Setting) (s : State) (waits : List ℕ) (bound : ℕ) (strides : List Stride)
    (verdict : Verdict) : Type 0 where
  pub says :
      (given : Given) → AreGiven g given s waits → IsVerdict g given bound (length strides) verdict
  pub of_run : AreOfRun g s waits strides
  pub within : used_in verdict ≤ bound
  pub short : length strides ≤ bound + 1

-- ---- on the way

-- the state and the waits at which a followed run stands, and the stride that it takes there
abbrev pub state_of : Following → State
state_of following = state_in following.machine (cards_left following.feed)

abbrev pub waits_of : Following → List ℕ
waits_of following = waits_left following.feed

-- the stride of a state with waits
abbrev pub stride_at : (Op → Entry) → State → List ℕ → Stride
stride_at times s waits = record {
  origin = s;
  wait = wait_with times (op_in s) waits;
  outcome = step times s (wait_with times (op_in s) waits);
}

abbrev pub stride_of : (Op → Entry) → Following → Stride
stride_of times following = stride_at times (state_of following) (waits_of following)

-- the word times that it has used
abbrev pub used_so_far : Following → ℕ
used_so_far following = used_by following.machine

-- the step goes on to a state that is right
abbrev pub Goes : Stepped → (State → Type 0) → Type 0
Goes (on next) Right = Right next
Goes (stopped held because moment) Right = ⊥

-- strides from a state with waits, each of which goes on, lead to a state with the waits that are
-- left
abbrev pub Lead : (Op → Entry) → State → List ℕ → List Stride → State → List ℕ → Type 0
Lead times s waits [] now left = (s ≡ now) × (waits ≡ left)
Lead times s waits (stride ∷ strides) now left =
    IsStride times s stride × (stride.wait ≡ wait_with times (op_in stride.origin) waits)
    × Goes stride.outcome
    (λ next. Lead times next (waits_with (op_in stride.origin) stride.origin waits) strides
    now left)

-- These strides were followed from a state with waits, and the notes were kept to.
pub record IsFollowing (g : Setting) (s : State) (waits : List ℕ) (bound : ℕ)
    (strides : List Stride) (following : Following) : Type 0 where
  pub lead : Lead g.times s waits strides (state_of following) (waits_of following)
  pub seen : HasSeenKept g.loads g.notes following.monitor strides
  pub silent : answer_of following.monitor ≡ None
  pub goes : GoesOn following.machine
  pub within : used_so_far following ≤ bound
  pub counted : following.steps ≡ length strides
  pub each_takes_time : following.steps ≤ used_so_far following
