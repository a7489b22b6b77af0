-- With a timing table that is nowhere quicker each hop may end as late or later, and so some walk
-- takes as long or longer.
use Rattle.std.proofs.Common.{◌≡◌, ℕ, ◌+◌, ◌-◌, ◌≤◌, Bool, true, false, if◌then◌else◌, List, [], ◌∷◌, Option, Some}
use Rattle.std.proofs.Common.{None, ◌++◌, refl, sym, ap, ◌∙◌, subst, inl, inr, ◌⊎◌, arith, mul_comm}
use Rattle.std.proofs.Math.Nat.{mul-le-mul_left}
use Rattle.base_words.specs.declared.op.Op.{Op}
use Rattle.base_words.specs.declared.op.Op.TheVariants.{Read, Punch}
use Rattle.base_words.specs.declared.parity.Parity.{Parity}
use Rattle.base_words.specs.declared.parity.Parity.TheVariants.{Any}
use Rattle.base_words.specs.Op.{op_of}
use Rattle.machine_rotation.specs.Available.{has_parity}
use Rattle.machine_rotation.specs.Moment.{first}
use Rattle.machine_rotation.specs.Recurs.{monotone, never_earlier}
use Rattle.machine_rotation.specs.Waits.{parity_recurs}
use Rattle.base_notes.specs.declared.entry.Entry.{Entry}
use Rattle.machine_steps.specs.Calls.{none_open, GoBack}
use Rattle.machine_steps.specs.Since.{Edge}
use Rattle.machine_steps.specs.Counts.{after_pass, AreWithin}
use Rattle.machine_steps.specs.Timing.{found, ready, waits_for_operand, reached, ended}
use Rattle.machine_steps.specs.Ways.{Way, early, to, late}
use Rattle.machine_steps.proofs.Chained.{found_keeps_time}
use Rattle.flow_graph.specs.Longest.{longest, most_units, most_wait}
use Rattle.proved_laws.specs.Slower.{AreNoQuicker, IsNoQuicker, with_times}
use Rattle.flow_graph.specs.Walk.{FollowHop, IsHopAt, IsTimed, IsWalk, IsWalkFrom, Setting, Taken, end_by, time_from}
use Rattle.flow_graph.specs.Walk.{edge_taken, edges_taken, time_of}
use Rattle.flow_graph.proofs.LongestLaws.{longest_is_timed, longest_of, units_at_most, wait_at_most}

-- a wait for an operand that begins later ends no earlier
reached_later : (op : Op) (d s t : ℕ) → s ≤ t → reached op d s ≤ reached op d t
reached_later op d s t before = go (waits_for_operand op)
  where
    go : (waits : Bool) → (if waits then found d s else s) ≤ (if waits then found d t else t)
    go true = (found_keeps_time d).monotone s t before
    go false = before

-- without a parity there is no wait for one
no_wait : (parity : Parity) (s : ℕ) → parity ≡ Any → first (has_parity parity) s ≤ s
unfolding first
no_wait parity s is = subst (λ (one : Parity). first (has_parity one) s ≤ s) (sym is) (omega arith)

-- a wait for no parity, or for the same, that begins earlier ends no later
parity_later : (parity slower : Parity) (s t : ℕ) → (parity ≡ slower) ⊎ (parity ≡ Any) → s ≤ t
    → first (has_parity parity) s ≤ first (has_parity slower) t
parity_later parity slower s t (inl same) before =
    subst (λ (one : Parity). first (has_parity parity) s ≤ first (has_parity one) t) same
    (monotone (parity_recurs parity) s t before)
parity_later parity slower s t (inr none) before =
    omega (arith, no_wait parity s none, never_earlier (parity_recurs slower) t, before)

module _ (entry slower : Entry) (is : IsNoQuicker slower entry) (op : Op) (d place units more wait longer s t : ℕ)
    (u : units ≤ more) (w : wait ≤ longer) (before : s ≤ t) where
  ready_later : ready entry place s ≤ ready slower place t
  ready_later = omega (arith, (found_keeps_time place).monotone s t before, is.before)

  ended_later : ended entry op d place units wait s ≤ ended slower op d place more longer t
  ended_later =
      omega (
        arith,
        parity_later entry.parity slower.parity (reached op d (ready entry place s))
            (reached op d (ready slower place t)) is.parity
            (reached_later op d (ready entry place s) (ready slower place t) ready_later),
        is.after,
        mul-le-mul_left entry.per u,
        mul-le-mul_left more is.per,
        mul_comm entry.per more,
        mul_comm slower.per more,
        w,
      )

  -- a hop with more units and a longer wait, that begins later, ends no earlier
  slower_end : (way : Way) → end_by way entry op d place units wait s ≤ end_by way slower op d place more longer t
  slower_end early = ready_later
  slower_end (to next) = ended_later
  slower_end late = ended_later

-- the longest wait is as long or longer
slower_wait : (op : Op) (entry slower : Entry) → IsNoQuicker slower entry → most_wait op entry ≤ most_wait op slower
slower_wait Read entry slower is = is.wait
slower_wait Punch entry slower is = is.wait
slower_wait _ entry slower is = omega arith

module _ (g : Setting) (slower : Op → Entry) (are : AreNoQuicker slower g.times) (angle : ℕ) where
  -- no hop ends later than the longest of the same instruction and way that begins later
  slower_hop : (hop : Taken) (op : Op) (later : ℕ) → op_of hop.ins.op ≡ Some op
      → IsTimed g.times angle hop (Some op) → hop.begun ≤ later
      → angle + hop.ended ≤ longest slower hop.place hop.ins hop.way (angle + later)
  slower_hop hop op later is timed before =
      omega (
        arith,
        timed.2,
        longest_of slower hop.place hop.ins hop.way (angle + later) op is,
        slower_end (g.times op) (slower op) (are op) op hop.ins.d hop.place hop.units (most_units op hop.ins.d)
            hop.wait (most_wait op (slower op)) (angle + hop.begun) (angle + later)
            (units_at_most op hop.ins.d hop.units timed.0)
            (omega (
              arith,
              wait_at_most op (g.times op) hop.wait timed.1,
              slower_wait op (g.times op) (slower op) (are op),
            ))
            (omega (arith, before)) hop.way,
      )

  -- the hop that takes its place
  record IsSlower (hop other : Taken) (place later : ℕ) : Type 0 where
    pub at : IsHopAt (with_times g slower) angle place later other
    pub same : other.way ≡ hop.way
    pub ends : hop.ended ≤ other.ended

  slower_at : (hop : Taken) (place time later : ℕ) → time ≤ later → IsHopAt g angle place time hop
      → (other : Taken) × IsSlower hop other place later
  slower_at hop place time later before at = go (op_of hop.ins.op) refl at.timed
    where
      go : (found_op : Option Op) → op_of hop.ins.op ≡ found_op → IsTimed g.times angle hop found_op
          → (other : Taken) × IsSlower hop other place later
      go None is timed = absurd timed
      go (Some op) is timed =
          let ends : angle + hop.ended ≤ longest slower place hop.ins hop.way (angle + later) =
          subst (λ (one : ℕ). angle + hop.ended ≤ longest slower one hop.ins hop.way (angle + later)) at.here
          (slower_hop hop op later is timed (omega (arith, at.begins, before))) in (
            record {
              place = place;
              ins = hop.ins;
              way = hop.way;
              units = most_units op hop.ins.d;
              wait = most_wait op (slower op);
              begun = later;
              ended = longest slower place hop.ins hop.way (angle + later) - angle;
            },
            record {
              at = record {
                here = refl;
                allowed = at.allowed;
                begins = refl;
                timed = longest_is_timed slower place hop.ins hop.way angle later op is;
              };
              same = refl;
              ends = omega (arith, ends);
            },
          )

  -- some walk goes on from a later time, and takes as long or longer
  abbrev HasSlower : List Taken → Type 0
  HasSlower hops =
      (place time later : ℕ) (counts : List ℕ) → time ≤ later → IsWalkFrom g angle place time counts hops
      → (others : List Taken) × IsWalkFrom (with_times g slower) angle place later counts others
      × (time_from time hops ≤ time_from later others) × (edges_taken others ≡ edges_taken hops)

  -- what follows a hop
  abbrev Follows : Setting → ℕ → ℕ → List ℕ → List Taken → ℕ → Type 0
  Follows one place ended counts hops next =
      let passed = after_pass one.notes.marks place next counts in
      AreWithin one.notes.marks passed × IsWalkFrom one angle next ended passed hops

  -- as the edges of what follows, so those with the hop before
  edges_behind : (hop other : Taken) (hops others : List Taken) → other.place ≡ hop.place → other.way ≡ hop.way
      → edges_taken others ≡ edges_taken hops → edges_taken (other ∷ others) ≡ edges_taken (hop ∷ hops)
  edges_behind hop other hops others here same behind =
      ap (λ (place : ℕ). edge_taken place other.way ++ edges_taken others) here
      ∙ ap (λ (way : Way). edge_taken hop.place way ++ edges_taken others) same
      ∙ ap (λ (edges : List Edge). edge_taken hop.place hop.way ++ edges) behind

  slower_behind : (hop other : Taken) (hops : List Taken) (place later : ℕ) (counts : List ℕ)
      → IsSlower hop other place later → other.place ≡ hop.place → HasSlower hops → (way : Way) → other.way ≡ way
      → FollowHop way (Follows g place hop.ended counts hops) hops
      → (others : List Taken) × IsWalkFrom (with_times g slower) angle place later counts others
      × (time_from hop.ended hops ≤ time_from later others)
      × (edges_taken others ≡ edges_taken (hop ∷ hops))
  slower_behind hop other hops place later counts one here more early same none = (
    other ∷ [],
    (
      one.at,
      subst (λ (w : Way). FollowHop w (Follows (with_times g slower) place other.ended counts []) []) (sym same) refl,
    ),
    subst (λ (all : List Taken). time_from hop.ended all ≤ other.ended) (sym none) one.ends,
    edges_behind hop other hops [] here one.same (ap edges_taken (sym none)),
  )
  slower_behind hop other hops place later counts one here more (to next) same follows =
      let others = more next hop.ended other.ended (after_pass g.notes.marks place next counts) one.ends follows.1 in (
        other ∷ others.0,
        (
          one.at,
          subst (λ (w : Way). FollowHop w (Follows (with_times g slower) place other.ended counts others.0) others.0)
              (sym same) (follows.0, others.1),
        ),
        others.2,
        edges_behind hop other hops others.0 here one.same others.3,
      )
  slower_behind hop other hops place later counts one here more late same none = (
    other ∷ [],
    (
      one.at,
      subst (λ (w : Way). FollowHop w (Follows (with_times g slower) place other.ended counts []) []) (sym same) refl,
    ),
    subst (λ (all : List Taken). time_from hop.ended all ≤ other.ended) (sym none) one.ends,
    edges_behind hop other hops [] here one.same (ap edges_taken (sym none)),
  )

  slower_from : (hops : List Taken) → HasSlower hops
  slower_from [] place time later counts before walk = ([], tt, before, refl)
  slower_from (hop ∷ hops) place time later counts before walk =
      let one = slower_at hop place time later before walk.0 in
      slower_behind hop one.0 hops place later counts one.1 (one.1.at.here ∙ sym walk.0.here)
      (slower_from hops) hop.way one.1.same walk.1

  -- so of the deck's walks
  pub slower_walk : (hops : List Taken) → IsWalk g angle hops
      → (others : List Taken) × IsWalk (with_times g slower) angle others × (time_of hops ≤ time_of others)
  slower_walk hops walk =
      let others = slower_from hops g.start 0 0 _ (omega arith) walk.from_start in
      let same : edges_taken others.0 ≡ edges_taken hops = others.3 in (
        others.0,
        record {
          on_drum = walk.on_drum;
          from_start = others.1;
          back = subst (GoBack g.notes.calls (none_open g.notes.calls)) (sym same) walk.back;
        },
        others.2,
      )
