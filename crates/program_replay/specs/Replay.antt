-- The run that a setup and a feed fix, and the verdict of its replay.
use Rattle.std.specs.Prelude.{◌≡◌, ℕ, ◌+◌, ◌≤◌, List, [], ◌∷◌, ◌++◌, length, Some, None}
use Rattle.base_words.specs.declared.op.Op.{Op}
use Rattle.base_notes.specs.declared.entry.Entry.{Entry}
use Rattle.machine_steps.specs.declared.card.Card.{Card}
use Rattle.machine_steps.specs.declared.left.Left as lefts
use Rattle.machine_steps.specs.declared.left.Left.TheVariants as left
use Rattle.machine_steps.specs.declared.why.Why.{Why}
use Rattle.machine_steps.specs.Contents.{Contents}
use Rattle.machine_steps.specs.Counts.{no_counts}
use Rattle.machine_steps.specs.Keeps.{IsAsDeclared, AllGoBack, AreKept, Leaves, open_behind}
use Rattle.machine_steps.specs.Keeps.{counts_over}
use Rattle.machine_steps.specs.Run.{Stride, IsRun, used_from}
use Rattle.machine_steps.specs.Step.{State, stopped}
use Rattle.machine_emulator.specs.declared.setup.Setup.{Setup}
use Rattle.machine_emulator.specs.FirstState.{IsSetUp}
use Rattle.machine_emulator.specs.Fed.{op_in, wait_with, waits_with}
use Rattle.machine_emulator.specs.Setup.{first_loaded}
use Rattle.flow_graph.specs.declared.refusal.Refusal.{Refusal}
use Rattle.flow_graph.specs.Walk.{Setting}
use Rattle.flow_graph.specs.Bounded.{IsDeckAccepted}
use Rattle.flow_acceptance.specs.Acceptance.{IsRefusal}
use Rattle.flow_walks.specs.Worst.{IsWorst}
use Rattle.print_lines.specs.declared.fault.Fault as fails
use Rattle.print_lines.specs.declared.fault.Fault.TheVariants as fault
use Rattle.machine_steps.specs.declared.verdict.Verdict.{Verdict}
use Rattle.machine_steps.specs.declared.verdict.Verdict.TheVariants.{Kept, Left}
use Rattle.print_lines.specs.declared.limit.Limit.{Limit}
use Rattle.read_documents.specs.declared.documents.Documents.{Documents}
use Rattle.program_limits.specs.Limits.{IsLimit, IsLimitRefusal}
use Rattle.read_documents.specs.Documents.{setting_of}

-- what a machine is set up with and fed with
pub record Given : Type 0 where
  pub setup : Setup
  pub cards : List Card
  pub waits : List ℕ

-- the strides take the waits that are fed, one after the other
abbrev pub AreFed : (Op → Entry) → List ℕ → List Stride → Type 0
AreFed times waits [] = Unit {0}
AreFed times waits (stride ∷ strides) =
    (stride.wait ≡ wait_with times (op_in stride.origin) waits)
    × AreFed times (waits_with (op_in stride.origin) stride.origin waits) strides

-- The strides are the first of the run that a setup and a feed fix: from the state that is set up,
-- with the cards in the reader, and with the waits as they are fed.
pub record IsReplayed (g : Setting) (given : Given) (strides : List Stride) : Type 0 where
  pub first : State
  pub set_up : IsSetUp g.loads g.start given.setup first
  pub reader : first.contents.cards ≡ given.cards
  pub run : IsRun g.times first strides
  pub fed : AreFed g.times given.waits strides

-- The run keeps to the notes in these strides, and takes this one after them.
pub record IsUnderWay (g : Setting) (given : Given) (strides : List Stride)
    (last : Stride) : Type 0 where
  pub declared : IsAsDeclared g.notes.programmed given.setup.programmed
  pub replayed : IsReplayed g given (strides ++ last ∷ [])
  pub kept : AreKept g.loads g.notes (no_counts g.notes.marks) strides
  pub back : AllGoBack g.notes strides

-- The run keeps to the notes until it stops, at this step, for this reason, with `used` word times
-- used.
pub record StopsAt (g : Setting) (given : Given) (step used : ℕ) (because : Why) : Type 0 where
  pub declared : IsAsDeclared g.notes.programmed given.setup.programmed
  pub strides : List Stride
  pub last : Stride
  pub replayed : IsReplayed g given (strides ++ last ∷ [])
  pub kept : AreKept g.loads g.notes (no_counts g.notes.marks) (strides ++ last ∷ [])
  pub back : AllGoBack g.notes (strides ++ last ∷ [])
  -- what the machine then holds
  pub held : Contents
  pub stops : last.outcome ≡ stopped held because used
  pub number : step ≡ length strides + 1

-- The run keeps to the notes before this step, with `used` word times used, and leaves them with
-- it.
pub record LeavesAt (g : Setting) (given : Given) (step used : ℕ) (what : lefts.Left) : Type 0 where
  pub strides : List Stride
  pub last : Stride
  pub under_way : IsUnderWay g given strides last
  pub leaves :
      Leaves g.loads g.notes (counts_over g.notes (no_counts g.notes.marks) strides)
      (open_behind g.notes strides) last what
  pub number : step ≡ length strides + 1
  pub time : used ≡ used_from 0 strides

-- how the notes are left: by the programmed switch before any step, else with a step
abbrev pub IsLeft : Setting → Given → ℕ → ℕ → lefts.Left → Type 0
IsLeft g given step used left.Switch =
    ¬ IsAsDeclared g.notes.programmed given.setup.programmed × (step ≡ 0) × (used ≡ 0)
IsLeft g given step used what = LeavesAt g given step used what

-- the verdict on the run, which ends or leaves the notes with this step, where kept runs use `most`
-- word times at most
abbrev pub IsVerdict : Setting → Given → ℕ → ℕ → Verdict → Type 0
IsVerdict g given most step (Kept used bound because) =
    (bound ≡ most) × StopsAt g given step used because
IsVerdict g given most step (Left what number used) =
    (number ≡ step) × IsLeft g given step used what

-- the word times that a verdict tells
abbrev pub used_in : Verdict → ℕ
used_in (Kept used bound because) = used
used_in (Left what step used) = used

-- The verdict on the run comes with this step, where kept runs use `most` word times at most: no
-- more are used in it, and it has no more steps than those and one.
pub record IsJudged (g : Setting) (given : Given) (most step : ℕ) (verdict : Verdict) :
    Type 0 where
  pub says : IsVerdict g given most step verdict
  pub within : used_in verdict ≤ most
  pub short : step ≤ most + 1

-- no location is given a word that the deck loads too
abbrev pub HasOwnWords : Setting → Given → Type 0
HasOwnWords g given = first_loaded g.loads given.setup.words.items ≡ None

-- there is a replay: the words are the run's own, and the deck with its notes is accepted
abbrev pub HasReplay : Setting → Given → Type 0
HasReplay g given = HasOwnWords g given × IsDeckAccepted g

-- What a replay answers: the verdict on its one run, which is held to what any walk takes at most.
pub record IsReplay (g : Setting) (given : Given) (verdict : Verdict) : Type 0 where
  pub has : HasReplay g given
  pub worst : ℕ
  pub is_worst : IsWorst g worst
  pub step : ℕ
  pub judged : IsJudged g given worst step verdict

-- The strides of a run up to the one with which its verdict comes, where kept runs use `most` word
-- times at most: none, where it comes before any step.
pub record IsTraced (g : Setting) (given : Given) (most : ℕ) (strides : List Stride)
    (verdict : Verdict) : Type 0 where
  pub judged : IsJudged g given most (length strides) verdict
  pub replayed : IsReplayed g given strides

-- The strides of a trace that goes out in part: the first of its run, up to one at most with which
-- the run leaves the notes or stops.
pub record IsTracedInPart (g : Setting) (given : Given) (strides : List Stride) : Type 0 where
  pub before : List Stride
  pub last : Stride
  pub all : strides ≡ before ++ last ∷ []
  pub under_way : IsUnderWay g given before last

-- Why there is no verdict: a location is given a word that the deck loads too, and the first such
-- location is told; else this is what refuses the documents; else there is what limits the run, and
-- the fault is Memory. (That memory was lacking then is tested, not stated.)
abbrev pub IsRunFault : Setting → Given → (Refusal → Type 0) → Type 0 → fails.Fault → Type 0
IsRunFault g given Refuses IsLimited (fault.Loaded location) =
    first_loaded g.loads given.setup.words.items ≡ Some location
IsRunFault g given Refuses IsLimited (fault.Refused refusal) = HasOwnWords g given × Refuses refusal
IsRunFault g given Refuses IsLimited fault.Memory = HasOwnWords g given × IsLimited
IsRunFault g given Refuses IsLimited _ = ⊥

-- of a replay: what refuses the documents is the analysis, and what limits the run is the bound
-- that an accepted deck has
abbrev pub IsReplayFault : Setting → Given → fails.Fault → Type 0
IsReplayFault g given =
    IsRunFault g given (IsRefusal g.loads g.notes g.start) (IsDeckAccepted g)

-- of a trace: what refuses the documents is that there is neither a bound nor a ceiling below 2 ^
-- 50, and what limits the run is the one that there is
abbrev pub IsTraceFault : Documents → Given → fails.Fault → Type 0
IsTraceFault documents given =
    IsRunFault (setting_of documents) given (IsLimitRefusal documents)
    ((limit : Limit) × (most : ℕ) × IsLimit documents limit most)
