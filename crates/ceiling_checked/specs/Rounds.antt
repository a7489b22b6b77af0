-- What a time round a mark's loop takes, by prices of the marks.
use Rattle.std.specs.Prelude.{◌≡◌, ℕ, ◌+◌, ◌<◌, ◌≤◌, if◌then◌else◌, List, [], ◌∷◌, ◌++◌, sum_by}
use Rattle.std.specs.Prelude.{slice_index, Option, Some, None}
use Rattle.base_notes.specs.declared.notes.mark.Mark.{Mark}
use Rattle.base_notes.specs.Marks.{mark_on}
use Rattle.base_notes.specs.declared.notes.call.Call.{Call}
use Rattle.machine_steps.specs.Calls.{none_open, open_along}
use Rattle.machine_steps.specs.Counts.{is_inside}
use Rattle.machine_steps.specs.Since.{Edge}
use Rattle.machine_steps.specs.Timing.{found}
use Rattle.machine_steps.specs.Ways.{to}
use Rattle.flow_graph.specs.Walk.{edges_taken}
use Rattle.flow_graph.specs.Walk.{Setting, Taken, IsWalk, time_of}

-- the last of these hops passes the mark with this index and goes on to the place
abbrev pub PassesLast : List Mark → ℕ → ℕ → List Taken → Type 0
PassesLast marks index place hops = (earlier : List Taken) × (last : Taken)
    × (hops ≡ earlier ++ last ∷ []) × (last.way ≡ to place)
    × (mark_on marks last.place place ≡ Some index)

-- what is open behind the first hops of a walk
abbrev pub open_behind : List Call → List Taken → List (Option ℕ)
open_behind calls hops = open_along calls (none_open calls) (edges_taken hops)

-- A round of a mark in a walk: after the hops before it, a pass of the mark has led to a place on
-- the drum; the hops of the round come back there, the last of them by a pass of the mark, and the
-- same exits of calls are open then, with the same ways back. There may be more passes of the mark
-- between, and of any other mark.
pub record IsRound (g : Setting) (angle index place : ℕ) (before round : List Taken) : Type 0
  where
    pub walk : IsWalk g angle (before ++ round)
    pub on_drum : place < 2000
    pub begins : PassesLast g.notes.marks index place before
    pub ends : PassesLast g.notes.marks index place round
    pub open_again : open_behind g.notes.calls (before ++ round) ≡ open_behind g.notes.calls before

-- what a pass of a mark, if there is one, costs in a round of the mark with index `round`: its
-- price; nothing where it stands inside of that mark, whose own price has it
abbrev pub price_in : List Mark → List ℕ → ℕ → Option ℕ → ℕ
price_in marks prices round None = 0
price_in marks prices round (Some index) =
    if is_inside marks index round then 0 else slice_index prices index

-- what a round's edges cost
abbrev pub round_cost : List Mark → List ℕ → ℕ → List Edge → ℕ
round_cost marks prices round edges =
    sum_by (λ edge. price_in marks prices round (mark_on marks edge.from edge.onto)) edges

-- The prices pay for every round, from when the place's instruction is found until it is found
-- again.
abbrev pub PayForRounds : Setting → List ℕ → Type 0
PayForRounds g prices = (angle index place : ℕ) (before round : List Taken)
    → IsRound g angle index place before round
    → found place (angle + time_of (before ++ round))
    ≤ found place (angle + time_of before)
    + round_cost g.notes.marks prices index (edges_taken round)
