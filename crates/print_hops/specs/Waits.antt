-- Where the word times of a walk go, by instruction and way.
use Rattle.std.specs.Prelude.{◌≡◌, ℕ, suc, ◌+◌, ◌-◌, ◌%◌, ◌<◌, ◌≤◌, ◌==◌, ◌⊎◌, Bool, true, false}
use Rattle.std.specs.Prelude.{◌&&◌, nat_lt, if◌then◌else◌, List, ◌∷◌, ◌++◌, filter, sum_by}
use Rattle.std.specs.Prelude.{slice_get, Option, Some, None, Contains}
use Rattle.base_words.specs.declared.op.Op.{Op}
use Rattle.base_words.specs.Op.{op_of}
use Rattle.base_notes.specs.declared.entry.Entry.{Entry}
use Rattle.machine_steps.specs.Timing.{waits_for_operand}
use Rattle.machine_steps.specs.Ways.{Way, early, to, late}
use Rattle.flow_graph.specs.Longest.{wait_by}
use Rattle.flow_walks.specs.Visited.{Visited}
use Rattle.print_hops.specs.declared.moments.Moments.{Moments}
use Rattle.print_hops.specs.Moments.{is_early, moments_of}

-- ---- what a hop takes, in word times

abbrev pub moments_at : (Op → Entry) → ℕ → Visited → Moments
moments_at times angle hop = moments_of times angle hop.place hop.ins hop.way hop.begun

abbrev pub time_of : Visited → ℕ
time_of hop = hop.ended - hop.begun

-- until its instruction is found
abbrev pub for_instruction : (Op → Entry) → ℕ → Visited → ℕ
for_instruction times angle hop = (moments_at times angle hop).found - hop.begun

abbrev pub between : Option ℕ → Option ℕ → ℕ
between (Some first) (Some last) = last - first
between _ _ = 0

-- from where its operation can begin until it has its data
abbrev pub for_data : (Op → Entry) → ℕ → Visited → ℕ
for_data times angle hop =
    between (moments_at times angle hop).ready (moments_at times angle hop).operand

-- for the card machine: as long as its operation may have to, unless the step stops before it acts
abbrev pub for_cards : (Op → Entry) → Visited → ℕ
for_cards times hop = if is_early hop.way then 0 else wait_by times (op_of hop.ins.op)

-- ---- hops of one kind

abbrev pub is_same_way : Way → Way → Bool
is_same_way early early = true
is_same_way (to next) (to other) = next == other
is_same_way late late = true
is_same_way _ _ = false

-- they begin at one place, with one instruction, and end in one way
abbrev pub is_alike : Visited → Visited → Bool
is_alike a b =
    a.place == b.place && a.ins.op == b.ins.op && a.ins.d == b.ins.d && a.ins.i == b.ins.i
    && is_same_way a.way b.way

-- the hops of a walk that are of the kind of one
abbrev pub alike : Visited → List Visited → List Visited
alike one walk = filter (is_alike one) walk

-- the word times that the hops of one's kind take
abbrev pub time_alike : List Visited → Visited → ℕ
time_alike walk one = sum_by time_of (alike one walk)

-- ---- the angles of the drum at which nothing would be waited for, where the instruction stands on
-- the drum, and so does what is waited for

-- an angle, where the location is on the drum
abbrev pub on_drum : ℕ → Option ℕ → Option ℕ
on_drum place angle = if nat_lt place 2000 then angle else None

-- that of D, where the operation waits for what is there
abbrev pub data_angle : ℕ → Option Op → Option ℕ → Option ℕ → Option ℕ
data_angle angle (Some op) (Some x) (Some d) =
    if waits_for_operand op then Some ((angle + x) % 50) else None
data_angle angle _ _ _ = None

-- that of the next instruction
abbrev pub next_angle : ℕ → Way → ℕ → Option ℕ
next_angle angle (to next) ended = on_drum next (Some ((angle + ended) % 50))
next_angle angle _ ended = None

abbrev pub data_at : (Op → Entry) → ℕ → Visited → Option ℕ
data_at times angle hop =
    let moments = moments_at times angle hop in
    on_drum hop.ins.d
    (on_drum hop.place (data_angle angle (op_of hop.ins.op) moments.ready moments.operand))

abbrev pub next_at : ℕ → Visited → Option ℕ
next_at angle hop = on_drum hop.place (next_angle angle hop.way hop.ended)

-- ---- the kinds of a walk

-- It is a hop of the walk, and none before it is of its kind.
abbrev pub IsFirst : List Visited → Visited → Type 0
IsFirst walk one = (before after : List Visited) × (walk ≡ before ++ one ∷ after)
    × ((hop : Visited) → Contains before hop → is_alike one hop ≡ false)

-- Of two kinds, each given by a hop, that which takes longer in all comes before; of those that
-- take as long, that which the walk comes to first.
abbrev pub ComesBefore : List Visited → Visited → Visited → Type 0
ComesBefore walk a b = (time_alike walk b < time_alike walk a)
    ⊎ ((time_alike walk a ≡ time_alike walk b) × (a.begun ≤ b.begun))

-- These are the first hops of all kinds of a walk, each kind once, the dearest kind first.
pub record AreDearestFirst (walk firsts : List Visited) : Type 0 where
  pub first : (one : Visited) → Contains firsts one → IsFirst walk one
  pub all : (hop : Visited) → Contains walk hop
      → (one : Visited) × Contains firsts one × (is_alike one hop ≡ true)
  pub apart : (i j : ℕ) (a b : Visited) → slice_get firsts i ≡ Some a → slice_get firsts j ≡ Some b
      → is_alike a b ≡ true → i ≡ j
  pub order : (k : ℕ) (a b : Visited) → slice_get firsts k ≡ Some a
      → slice_get firsts (suc k) ≡ Some b → ComesBefore walk a b
