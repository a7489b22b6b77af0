-- Walks of the flow graph, with their times.
use Rattle.std.specs.Prelude.{◌≡◌, ℕ, ◌+◌, ◌<◌, ◌≤◌, List, [], ◌∷◌, Option, Some, None, Contains}
use Rattle.std.specs.Prelude.{if◌then◌else◌, flat_map}
use Rattle.base_words.specs.declared.instruction.Instruction.{Instruction}
use Rattle.base_words.specs.declared.op.Op.{Op}
use Rattle.base_words.specs.declared.op.Op.TheVariants.{Divide, DivideReset, Multiply, Shift}
use Rattle.base_words.specs.declared.word.Word.{Word}
use Rattle.base_words.specs.Op.{op_of}
use Rattle.base_notes.specs.declared.entry.Entry.{Entry}
use Rattle.base_notes.specs.declared.notes.mark.Mark.{Mark}
use Rattle.base_notes.specs.Allowed.{Notes, AreSound}
use Rattle.base_notes.specs.Marks.{is_on}
use Rattle.machine_steps.specs.Calls.{none_open, GoBack}
use Rattle.machine_steps.specs.Counts.{after_pass, no_counts, AreWithin}
use Rattle.machine_steps.specs.Effect.{places}
use Rattle.machine_steps.specs.Since.{Edge}
use Rattle.machine_steps.specs.Timing.{ready, ended, IsWait}
use Rattle.machine_steps.specs.Ways.{Way, early, to, late}
use Rattle.flow_graph.specs.Hops.{hops}

-- a hop of a walk: where it begins, its instruction and way, its units and its wait, and the word
-- times used when it begins and when it ends
pub record Taken : Type 0 where
  pub place : ℕ
  pub ins : Instruction
  pub way : Way
  pub units : ℕ
  pub wait : ℕ
  pub begun : ℕ
  pub ended : ℕ

-- the units that an operation may have, whatever the data: for 14, 19 and 64 up to 90, for a shift
-- its places
abbrev pub MayHaveUnits : Op → ℕ → ℕ → Type 0
MayHaveUnits Divide d units = units ≤ 90
MayHaveUnits DivideReset d units = units ≤ 90
MayHaveUnits Multiply d units = units ≤ 90
MayHaveUnits (Shift s) d units = units ≡ places s d
MayHaveUnits _ d units = units ≡ 0

-- the clock at which a hop ends that begins its search at another: x for Early, else e
abbrev pub end_by : Way → Entry → Op → ℕ → ℕ → ℕ → ℕ → ℕ → ℕ
end_by early entry op d place units wait clock = ready entry place clock
end_by (to next) entry op d place units wait clock = ended entry op d place units wait clock
end_by late entry op d place units wait clock = ended entry op d place units wait clock

-- the units, the wait and the end of a hop are right, from this start angle
abbrev pub IsTimed : (Op → Entry) → ℕ → Taken → Option Op → Type 0
IsTimed times angle hop None = ⊥
IsTimed times angle hop (Some op) =
    MayHaveUnits op hop.ins.d hop.units × IsWait op (times op) hop.wait
    × (angle + hop.ended
    ≡ end_by hop.way (times op) op hop.ins.d hop.place hop.units hop.wait (angle + hop.begun))

-- What walks are walks of: a deck, its notes and a timing table. (A line of a replay's inputs that
-- sets a switch is another thing.)
pub record Setting : Type 0 where
  -- the word that the deck loads into a location
  pub loads : ℕ → Option Word
  pub notes : Notes
  -- the timing table
  pub times : Op → Entry
  -- where the program starts
  pub start : ℕ

-- What is so of each setting: the deck loads drum words alone and starts on the drum, and the notes
-- are sound.
pub record IsProper (g : Setting) : Type 0 where
  pub on_drum : (place : ℕ) (w : Word) → g.loads place ≡ Some w → place < 2000
  pub starts : g.start < 2000
  pub notes : AreSound g.notes

-- The hop is one of the place, and begins at this time.
pub record IsHopAt (g : Setting) (angle place time : ℕ) (hop : Taken) : Type 0 where
  pub here : hop.place ≡ place
  pub allowed : Contains (hops g.loads g.notes place) (record { ins = hop.ins; way = hop.way })
  pub begins : hop.begun ≡ time
  pub timed : IsTimed g.times angle hop (op_of hop.ins.op)

-- nothing follows a hop that stops, and what follows one that goes on is right for its target
abbrev pub FollowHop : Way → (ℕ → Type 0) → List Taken → Type 0
FollowHop early Right hops = hops ≡ []
FollowHop (to next) Right hops = Right next
FollowHop late Right hops = hops ≡ []

-- Hops one after the other, from a place, a time and counts on: each but the last is a To, and the
-- next is a hop of its target. No mark is passed more often than it may be.
abbrev pub IsWalkFrom : Setting → ℕ → ℕ → ℕ → List ℕ → List Taken → Type 0
IsWalkFrom g angle place time counts [] = Unit {0}
IsWalkFrom g angle place time counts (hop ∷ hops) =
    IsHopAt g angle place time hop
    × FollowHop hop.way (λ next.
    let passed = after_pass g.notes.marks place next counts in
    AreWithin g.notes.marks passed × IsWalkFrom g angle next hop.ended passed hops) hops

-- the edge that a hop takes, as a list of one, or of none where it stops
abbrev pub edge_taken : ℕ → Way → List Edge
edge_taken place early = []
edge_taken place (to next) = record { from = place; onto = next } ∷ []
edge_taken place late = []

-- the edges that hops take, in their order
abbrev pub edges_taken : List Taken → List Edge
edges_taken hops = flat_map (λ hop. edge_taken hop.place hop.way) hops

-- A walk: from a start angle, at the deck's start, with nothing used, no mark passed and no exit
-- open. From an exit it goes back to where the calls before have it. It may be empty.
pub record IsWalk (g : Setting) (angle : ℕ) (hops : List Taken) : Type 0 where
  pub on_drum : angle < 50
  pub from_start : IsWalkFrom g angle g.start 0 (no_counts g.notes.marks) hops
  pub back : GoBack g.notes.calls (none_open g.notes.calls) (edges_taken hops)

-- the time of a walk that begins at a time: the end of its last hop
abbrev pub time_from : ℕ → List Taken → ℕ
time_from time [] = time
time_from time (hop ∷ hops) = time_from hop.ended hops

abbrev pub time_of : List Taken → ℕ
time_of hops = time_from 0 hops

-- how often a hop passes a mark
abbrev pub passes_by : Mark → ℕ → Way → ℕ
passes_by mark place early = 0
passes_by mark place (to next) = if is_on mark place next then 1 else 0
passes_by mark place late = 0
