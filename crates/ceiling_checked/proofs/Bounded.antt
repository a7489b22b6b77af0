-- A certificate bounds every walk, and every part of one.
use Rattle.std.proofs.Common.{◌≡◌, ℕ, ◌+◌, ◌-◌, ◌*◌, ◌/◌, ◌%◌, ◌<◌, ◌≤◌, List, [], ◌∷◌, ◌++◌}
use Rattle.std.proofs.Common.{Option, Some, None, refl, ap, sym, ◌∙◌, subst, arith}
use Rattle.std.specs.Prelude.{Contains}
use Rattle.base_words.specs.declared.op.Op.{Op}
use Rattle.base_words.specs.Op.{op_of}
use Rattle.machine_rotation.specs.Waits.{available_recurs}
use Rattle.machine_rotation.proofs.Waited.{first_again}
use Rattle.machine_steps.specs.Counts.{after_pass, no_counts, AreWithin}
use Rattle.machine_steps.specs.Timing.{found}
use Rattle.machine_steps.specs.Ways.{Way, early, to, late}
use Rattle.machine_steps.proofs.Chained.{found_keeps_time}
use Rattle.machine_steps.specs.Calls.{open_after, GoBack, MayGo}
use Rattle.flow_graph.specs.Hops.{edge_between, first_node, hops, Hop, Node}
use Rattle.flow_graph.specs.Longest.{longest}
use Rattle.flow_graph.specs.Walk.{edge_taken, edges_taken}
use Rattle.flow_graph.specs.Walk.{FollowHop, IsTimed, IsWalk, IsWalkFrom, Setting, Taken, time_from, time_of}
use Rattle.flow_graph.proofs.FromAngles.{found_angle, leap_time}
use Rattle.flow_graph.proofs.LongestLaws.{longest_from_found, longest_later, longest_monotone, no_later}
use Rattle.ceiling_rows.specs.Steps.{arrival}
use Rattle.ceiling_rows.specs.SiteRows.{node_behind}
use Rattle.ceiling_rows.proofs.Angles.{found_later}
use Rattle.ceiling_checked.specs.Certificate.{IsAllowed, IsCertificate, Pays}

-- At a node, whose instruction is found at this clock at the latest, so much is due; the clock is one at which it is
-- found.
pub record IsDue (g : Setting) (owed : Node → ℕ → List ℕ → Option ℕ) (angle : ℕ) (node : Node) (time : ℕ)
    (counts : List ℕ) (clock due : ℕ) : Type 0 where
  pub near : found node.place (angle + time) ≤ clock
  pub stays : found node.place clock ≡ clock
  pub within : AreWithin g.notes.marks counts
  pub at : owed node (clock % 50) counts ≡ Some due

module _ (g : Setting) (owed : Node → ℕ → List ℕ → Option ℕ) (total : ℕ) (is : IsCertificate g owed total)
    (angle : ℕ) where
  -- What is owed pays at each later clock of its angle too.
  pays_at : (node : Node) (clock due : ℕ) (counts : List ℕ) → AreWithin g.notes.marks counts
      → owed node (clock % 50) counts ≡ Some due → (hop : Hop) → Contains (hops g.loads g.notes node.place) hop
      → IsAllowed g.notes node counts hop.way → Pays g owed node clock counts due hop
  pays_at node clock due counts within at hop has may =
      let place : ℕ = node.place in
      let one = is.pays node (clock % 50) due counts (omega arith) within at hop has may in
      let whole : clock ≡ clock % 50 + 50 * (clock / 50) = omega arith in
      let from : ℕ = longest g.times place hop.ins hop.way (clock % 50) in
      let moved : longest g.times place hop.ins hop.way clock ≡ clock + (from - clock % 50) =
      leap_time g.times place hop.ins hop.way (clock % 50) clock (omega arith) refl in
      let later = longest_later g.times place hop.ins hop.way (clock % 50) in
      let ended : longest g.times place hop.ins hop.way clock ≡ from + 50 * (clock / 50) =
      omega (arith, moved, whole, later) in
      record {
        ends = omega (arith, one.ends, ended, whole);
        goes_on = λ next on.
            let so = one.goes_on next on in
            let arrives : arrival g place clock hop next ≡ found next from + 50 * (clock / 50) =
            ap (found next) ended ∙ found_later next (clock / 50) from in
            let turned : arrival g place clock hop next % 50 ≡ found next from % 50 =
            omega (arith, arrives) in (
              so.0,
              ap (λ (n : ℕ). owed (node_behind g.notes node next) n (after_pass g.notes.marks place next counts)) turned
                  ∙ so.1,
              omega (arith, so.2, arrives, whole),
            );
      }

  -- a hop that a walk takes ends no later than one that is found at the clock
  pub ended_by : (place time clock : ℕ) (hop : Taken) → hop.place ≡ place → hop.begun ≡ time
      → IsTimed g.times angle hop (op_of hop.ins.op) → found place (angle + time) ≤ clock
      → angle + hop.ended ≤ longest g.times place hop.ins hop.way clock
  ended_by place time clock hop here begins timed before = go (op_of hop.ins.op) refl timed
    where
      go : (op : Option Op) → op_of hop.ins.op ≡ op → IsTimed g.times angle hop op
          → angle + hop.ended ≤ longest g.times place hop.ins hop.way clock
      go None is_op timed_by = absurd timed_by
      go (Some op) is_op timed_by =
          omega (
            arith,
            subst (λ (n : ℕ). angle + hop.ended ≤ longest g.times n hop.ins hop.way (angle + time)) here
                (subst (λ (n : ℕ). angle + hop.ended ≤ longest g.times hop.place hop.ins hop.way (angle + n))
                begins (no_later g.times angle hop timed)),
            longest_from_found g.times place hop.ins hop.way (angle + time) op is_op,
            longest_monotone g.times place hop.ins hop.way (found place (angle + time)) clock before,
          )

  -- A hop that goes on is paid for: what is due next, with the clock then, is no more than before.
  pub due_next : (node : Node) (time : ℕ) (counts : List ℕ) (clock due : ℕ) (hop : Taken) (next : ℕ)
      → IsDue g owed angle node time counts clock due → hop.place ≡ node.place → hop.begun ≡ time
      → Contains (hops g.loads g.notes node.place) (record { ins = hop.ins; way = hop.way })
      → IsTimed g.times angle hop (op_of hop.ins.op) → hop.way ≡ to next
      → MayGo g.notes.calls node.ways (edge_between node.place next)
      → AreWithin g.notes.marks (after_pass g.notes.marks node.place next counts)
      → (later : ℕ) × (when : ℕ)
      × IsDue g owed angle (node_behind g.notes node next) hop.ended (after_pass g.notes.marks node.place next counts) when
      later × (when + later ≤ clock + due) × (angle + hop.ended + 49 ≤ clock + due)
  due_next node time counts clock due hop next is_due here begins allowed timed on goes within =
      let one : Hop = record { ins = hop.ins; way = hop.way } in
      let may : IsAllowed g.notes node counts hop.way =
      subst (IsAllowed g.notes node counts) (sym on) (goes, within) in
      let pays = pays_at node clock due counts is_due.within is_due.at one allowed may in
      let so = pays.goes_on next on in
      let latest : ℕ = longest g.times node.place hop.ins hop.way clock in
      let ended = ended_by node.place time clock hop here begins timed is_due.near in (
        so.0,
        found next latest,
        record {
          near = (found_keeps_time next).monotone (angle + hop.ended) latest ended;
          stays = first_again (available_recurs next) latest;
          within = within;
          at = so.1;
        },
        so.2,
        omega (arith, ended, pays.ends),
      )

  -- what a walk is gone back by, behind a hop that goes on
  pub back_next : (node : Node) (hop : Taken) (rest : List Taken) (next : ℕ) → hop.place ≡ node.place → hop.way ≡ to next
      → GoBack g.notes.calls node.ways (edges_taken (hop ∷ rest))
      → MayGo g.notes.calls node.ways (edge_between node.place next)
      × GoBack g.notes.calls (node_behind g.notes node next).ways (edges_taken rest)
  back_next node hop rest next here on back =
      subst (λ (place : ℕ). MayGo g.notes.calls node.ways (edge_between place next)
      × GoBack g.notes.calls (open_after g.notes.calls (edge_between place next) node.ways) (edges_taken rest)) here
      (subst (λ (way : Way). GoBack g.notes.calls node.ways (edge_taken hop.place way ++ edges_taken rest)) on back)

  -- From where so much is due a walk ends 49 word times before the clock with that at the latest.
  pub walk_below : (node : Node) (time : ℕ) (counts : List ℕ) (hops : List Taken) (clock due limit : ℕ)
      → IsWalkFrom g angle node.place time counts hops → GoBack g.notes.calls node.ways (edges_taken hops)
      → IsDue g owed angle node time counts clock due
      → angle + time + 49 ≤ limit → clock + due ≤ limit → angle + time_from time hops + 49 ≤ limit
  walk_below node time counts [] clock due limit walk back is_due used below = used
  walk_below node time counts (hop ∷ hops) clock due limit walk back is_due used below =
      by (λ next from so_far. walk_below next from so_far hops) hop.way refl walk.1
    where
      one : Hop
      one = record { ins = hop.ins; way = hop.way }

      stops : IsAllowed g.notes node counts hop.way → hops ≡ []
          → angle + time_from hop.ended hops + 49 ≤ limit
      stops may last =
          let pays = pays_at node clock due counts is_due.within is_due.at one walk.0.allowed may in
          let ended = ended_by node.place time clock hop walk.0.here walk.0.begins walk.0.timed is_due.near in
          omega (arith, ended, pays.ends, ap (time_from hop.ended) last, below)

      Below : Node → ℕ → List ℕ → Type 0
      Below next from so_far = (when later bound : ℕ) → IsWalkFrom g angle next.place from so_far hops
          → GoBack g.notes.calls next.ways (edges_taken hops)
          → IsDue g owed angle next from so_far when later → angle + from + 49 ≤ bound → when + later ≤ bound
          → angle + time_from from hops + 49 ≤ bound

      by : ((next : Node) (from : ℕ) (so_far : List ℕ) → Below next from so_far) → (way : Way) → hop.way ≡ way
          → FollowHop way (λ next.
          AreWithin g.notes.marks (after_pass g.notes.marks node.place next counts)
          × IsWalkFrom g angle next hop.ended (after_pass g.notes.marks node.place next counts) hops) hops
          → angle + time_from hop.ended hops + 49 ≤ limit
      by further early is_way last =
          stops (subst (IsAllowed g.notes node counts) (sym is_way) tt) last
      by further (to next) is_way rest =
          let goes = back_next node hop hops next walk.0.here is_way back in
          let so = due_next node time counts clock due hop next is_due walk.0.here walk.0.begins walk.0.allowed
          walk.0.timed is_way goes.0 rest.0 in
          further (node_behind g.notes node next) hop.ended (after_pass g.notes.marks node.place next counts) so.1 so.0
          limit rest.1 goes.1 so.2 (omega (arith, so.4, below)) (omega (arith, so.3, below))
      by further late is_way last =
          stops (subst (IsAllowed g.notes node counts) (sym is_way) tt) last

  -- what is due at the start
  pub due_first : g.start < 2000 → AreWithin g.notes.marks (no_counts g.notes.marks)
      → IsDue g owed angle (first_node g.notes g.start) 0 (no_counts g.notes.marks) (found g.start angle) total
  due_first below within =
      let same : angle + 0 ≡ angle = omega arith in
      record {
        near = omega (arith, ap (found g.start) same);
        stays = first_again (available_recurs g.start) angle;
        within = within;
        at =
            ap (λ (n : ℕ). owed (first_node g.notes g.start) n (no_counts g.notes.marks)) (found_angle g.start angle below)
            ∙ is.starts;
      }

  -- A walk takes no more than the total.
  pub walk_total : (hops : List Taken) → g.start < 2000 → AreWithin g.notes.marks (no_counts g.notes.marks)
      → IsWalk g angle hops → time_of hops ≤ total
  walk_total hops below within walk =
      let near : found g.start angle ≤ angle + 49 = (found_keeps_time g.start).within_span angle in
      let clock : ℕ = found g.start angle in
      omega (
        arith,
        walk_below (first_node g.notes g.start) 0 (no_counts g.notes.marks) hops clock total (angle + 49 + total)
            walk.from_start walk.back (due_first below within) (omega arith) (omega (arith, near)),
      )
