-- The hops of a walk follow one another in time.
use Rattle.std.proofs.Common.{◌≡◌, ℕ, ◌+◌, ◌≤◌, List, [], ◌∷◌, Option, Some, None, map, sym, subst, arith}
use Rattle.base_words.specs.declared.op.Op.{Op}
use Rattle.base_words.specs.Op.{op_of}
use Rattle.machine_steps.specs.Counts.{after_pass, AreWithin}
use Rattle.machine_steps.specs.Ways.{Way, early, to, late}
use Rattle.flow_graph.specs.Walk.{Setting, Taken, IsTimed, FollowHop, IsWalkFrom, time_from}
use Rattle.flow_graph.proofs.LongestLaws.{end_later}
use Rattle.flow_walks.specs.Visited.{Visited, visited, IsWalkOf, AreInTime}

-- a hop ends no earlier than it begins
ends_later : (g : Setting) (angle : ℕ) (hop : Taken) (op : Option Op) → IsTimed g.times angle hop op
    → hop.begun ≤ hop.ended
ends_later g angle hop None timed = absurd timed
ends_later g angle hop (Some op) timed =
    omega (arith, timed.2, end_later (g.times op) op hop.ins.d hop.place hop.units hop.wait hop.way (angle + hop.begun))

-- what follows a hop is in time
follow_in_time : (way : Way) (ended used : ℕ) (Right : ℕ → Type 0) (hops : List Taken) → FollowHop way Right hops
    → ((next : ℕ) → Right next → AreInTime ended (map visited hops) used) → time_from ended hops ≡ used
    → AreInTime ended (map visited hops) used
follow_in_time early ended used Right hops none next time =
    subst (λ (more : List Taken). time_from ended more ≡ used → AreInTime ended (map visited more) used) (sym none)
    (λ t. t) time
follow_in_time (to target) ended used Right hops right next time = next target right
follow_in_time late ended used Right hops none next time =
    subst (λ (more : List Taken). time_from ended more ≡ used → AreInTime ended (map visited more) used) (sym none)
    (λ t. t) time

in_time_from : (g : Setting) (angle place time used : ℕ) (counts : List ℕ) (hops : List Taken)
    → IsWalkFrom g angle place time counts hops
    → time_from time hops ≡ used → AreInTime time (map visited hops) used
in_time_from g angle place time used counts [] walk end = end
in_time_from g angle place time used counts (hop ∷ hops) walk end = (
  walk.0.begins,
  omega (arith, walk.0.begins, ends_later g angle hop (op_of hop.ins.op) walk.0.timed),
  follow_in_time hop.way hop.ended used
      (λ next. AreWithin g.notes.marks (after_pass g.notes.marks place next counts)
      × IsWalkFrom g angle next hop.ended (after_pass g.notes.marks place next counts) hops)
      hops walk.1 (λ next right.
      in_time_from g angle next hop.ended used (after_pass g.notes.marks place next counts) hops right.1 end) end,
)

-- The visits of a walk are in time, from 0 to the walk's.
pub walk_in_time : (g : Setting) (angle used : ℕ) (visits : List Visited) → IsWalkOf g angle used visits
    → AreInTime 0 visits used
walk_in_time g angle used visits walk =
    subst (λ (all : List Visited). AreInTime 0 all used) walk.same
    (in_time_from g angle g.start 0 used _ walk.hops walk.walk.from_start walk.time)
