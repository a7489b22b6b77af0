-- Stretches of a walk: what hops come to, from where and when the first begins.
use Rattle.std.specs.Prelude.{◌≡◌, ℕ, ◌+◌, ◌-◌, ◌%◌, ◌==◌, if◌then◌else◌, List, [], ◌∷◌, ◌++◌}
use Rattle.std.specs.Prelude.{flat_map, length, map, slice_get, sum_by, Option, Some, None, ◌<◌}
use Rattle.base_words.specs.declared.location.Location.{Location}
use Rattle.base_words.specs.Op.{op_of}
use Rattle.base_notes.specs.declared.notes.mark.Mark.{Mark}
use Rattle.machine_steps.specs.Calls.{none_open}
use Rattle.machine_steps.specs.Counts.{is_inside, no_counts, AreWithin}
use Rattle.machine_steps.specs.Since.{Edge, passes_of}
use Rattle.machine_steps.specs.Ways.{Way, early, to, late}
use Rattle.flow_graph.specs.Longest.{longest, units_by, wait_by}
use Rattle.flow_graph.specs.Walk.{edge_taken}
use Rattle.flow_graph.specs.Walk.{Setting, Taken, IsWalkFrom, time_from}
use Rattle.flow_walks.specs.Pieces.{placed, spelled_at, PlacedHop}
use Rattle.ceiling_rounds.specs.declared.change.Change.{Change}
use Rattle.ceiling_rounds.specs.declared.change.Change.TheVariants.{Rise, SetBack}
use Rattle.ceiling_rounds.specs.declared.opening.Opening.{Opening}
use Rattle.ceiling_rounds.specs.declared.stretch.Stretch.{Stretch}
use Rattle.ceiling_rounds.specs.Change.{counts_after, passes_by, peaks}
use Rattle.ceiling_rounds.specs.InRounds.{takes}
use Rattle.ceiling_rounds.specs.Opening.{AreRight, Meet}

-- where hops begin, at which angle, where the last leads if it goes on, how long they take, what
-- they do to each mark's count, and what they ask and make of what is open at each call's exit
pub record Span : Type 0 where
  pub from : ℕ
  pub angle : ℕ
  pub onto : Option ℕ
  pub time : ℕ
  pub changes : List Change
  pub openings : List Opening

abbrev pub number_of : Option Location → Option ℕ
number_of None = None
number_of (Some location) = Some location.number

abbrev pub span_of : Stretch → Span
span_of stretch = record {
  from = stretch.from.number;
  angle = stretch.angle;
  onto = number_of stretch.onto;
  time = stretch.time;
  changes = stretch.changes.items;
  openings = stretch.openings.items;
}

-- the hop, begun at this time, as long as it can be
abbrev pub laid_one : Setting → ℕ → ℕ → PlacedHop → Taken
laid_one g angle time one = record {
  place = one.place;
  ins = one.hop.ins;
  way = one.hop.way;
  units = units_by one.hop.ins.d (op_of one.hop.ins.op);
  wait = wait_by g.times (op_of one.hop.ins.op);
  begun = time;
  ended = longest g.times one.place one.hop.ins one.hop.way (angle + time) - angle;
}

-- hops from this time on, each as long as it can be
abbrev pub laid : Setting → ℕ → ℕ → List PlacedHop → List Taken
laid g angle time [] = []
laid g angle time (one ∷ hops) =
    let hop = laid_one g angle time one in hop ∷ laid g angle hop.ended hops

-- the edges that hops take
abbrev pub edges_placed : List PlacedHop → List Edge
edges_placed hops = flat_map (λ one. edge_taken one.place one.hop.way) hops

-- where a hop by this way goes on, if it does
abbrev pub next_by : Way → Option ℕ
next_by early = None
next_by (to next) = Some next
next_by late = None

-- these hops are a walk that goes on there; where nothing goes on, there are none
abbrev pub GoOn : Setting → ℕ → ℕ → List ℕ → List Taken → Option ℕ → Type 0
GoOn g angle time counts rest None = rest ≡ []
GoOn g angle time counts rest (Some next) = IsWalkFrom g angle next time counts rest

-- The hops come to this: from any time of the span's angle they begin at their own angles and take
-- as long, and with what goes on behind them they are a walk, if the counts are never above what
-- the marks allow. They go back from exits as the calls have it, if what is open at first meets
-- what they ask.
pub record ComeTo (g : Setting) (hops : List PlacedHop) (span : Span) : Type 0 where
  pub each : length span.changes ≡ length g.notes.marks
  pub passed : (index : ℕ) (change : Change) → slice_get span.changes index ≡ Some change
      → passes_by change ≡ passes_of g.notes.marks index (edges_placed hops)
  pub lasts : span.time ≡ sum_by (takes g.times) hops
  pub placed : (angle time : ℕ) → (angle + time) % 50 ≡ span.angle
      → map (placed angle) (laid g angle time hops) ≡ hops
  pub time : (angle time : ℕ) → (angle + time) % 50 ≡ span.angle
      → time_from time (laid g angle time hops) ≡ time + span.time
  pub walks : (angle time : ℕ) (counts : List ℕ) (rest : List Taken)
      → (angle + time) % 50 ≡ span.angle
      → AreWithin g.notes.marks (peaks span.changes counts)
      → GoOn g angle (time + span.time) (counts_after span.changes counts) rest span.onto
      → IsWalkFrom g angle span.from time counts (laid g angle time hops ++ rest)
  pub opens : AreRight g.notes.calls (edges_placed hops) span.openings

-- what a pass of the mark with the index `passed`, if one is passed, does to the count of the mark
-- with this index
abbrev pub change_by : List Mark → Option ℕ → ℕ → Change
change_by all None index = Rise 0
change_by all (Some passed) index =
    if index == passed then Rise 1
    else (if is_inside all index passed then SetBack 0 0 0 0 else Rise 0)

-- and to those of these marks, the first of which has this index
abbrev pub changes_by : List Mark → Option ℕ → ℕ → List Mark → List Change
changes_by all passed index [] = []
changes_by all passed index (mark ∷ marks) =
    change_by all passed index ∷ changes_by all passed (index + 1) marks

-- each stretch is what the hops come to that its piece spells out
pub record AreStretches (g : Setting) (pieces : List (List PlacedHop))
    (stretches : List Stretch) : Type 0 where
  pub each : length stretches ≡ length pieces
  pub come : (number : ℕ) (stretch : Stretch) → slice_get stretches number ≡ Some stretch
      → ComeTo g (spelled_at pieces number) (span_of stretch)

-- The span begins as a walk does, no count is ever above what its mark allows, and no exit has to
-- be open at first.
pub record IsFromStart (g : Setting) (span : Span) : Type 0 where
  pub starts : span.from ≡ g.start
  pub on_drum : span.angle < 50
  pub within : AreWithin g.notes.marks (peaks span.changes (no_counts g.notes.marks))
  pub closed : Meet span.openings (none_open g.notes.calls)
