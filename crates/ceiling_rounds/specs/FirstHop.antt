-- The hops with which a walk may begin, as they are looked at for the longest of them.
use Rattle.std.specs.Prelude.{◌≡◌, ℕ, ◌+◌, ◌%◌, ◌≤◌, List, Option, Some, None, Contains}
use Rattle.machine_steps.specs.Calls.{none_open, MayGo}
use Rattle.machine_steps.specs.Counts.{after_pass, no_counts, AreWithin}
use Rattle.machine_steps.specs.Ways.{Way, early, to, late}
use Rattle.flow_graph.specs.Hops.{edge_between, hops, Hop}
use Rattle.flow_graph.specs.Walk.{Setting}
use Rattle.flow_walks.specs.declared.piece.Placed.{Placed}
use Rattle.flow_walks.specs.Pieces.{seen_placed, PlacedHop}
use Rattle.ceiling_rounds.specs.InRounds.{takes}

-- A walk may begin with a hop of the start by this way: it stops, or its edge doesn't begin at the
-- exit of a call, where nothing is open yet, and passes no mark that can't be passed once.
abbrev pub MayBegin : Setting → Way → Type 0
MayBegin g early = Unit {0}
MayBegin g (to next) =
    MayGo g.notes.calls (none_open g.notes.calls) (edge_between g.start next)
    × AreWithin g.notes.marks (after_pass g.notes.marks g.start next (no_counts g.notes.marks))
MayBegin g late = Unit {0}

-- the hop of the start from the angle behind the start's: the search for it takes longest from
-- there
abbrev pub first_placed : Setting → Hop → PlacedHop
first_placed g hop = record { place = g.start; angle = (g.start + 1) % 50; hop = hop }

-- it is such a hop, and a walk may begin with it
pub record IsFirst (g : Setting) (one : PlacedHop) : Type 0 where
  pub there : Contains (hops g.loads g.notes g.start) one.hop
  pub may : MayBegin g one.hop.way
  pub placed : first_placed g one.hop ≡ one

-- the word times that such a hop takes at most; 0 where there is none
abbrev pub longest_time : Setting → Option Placed → ℕ
longest_time g None = 0
longest_time g (Some one) = takes g.times (seen_placed one)

-- none of these hops of the start with which a walk may begin takes more word times than this
abbrev pub AreNoLonger : Setting → List Hop → ℕ → Type 0
AreNoLonger g all most =
    (hop : Hop) → Contains all hop → MayBegin g hop.way → takes g.times (first_placed g hop) ≤ most
