-- What all hops of a walk wait is part of its time, where each takes as long as it can.
use Rattle.std.proofs.Common.{◌≡◌, ℕ, ◌+◌, ◌-◌, ◌≤◌, Bool, true, false, List, [], ◌∷◌, map, refl, ap, sym, subst, arith}
use Rattle.std.proofs.Common.{Option, Some, None, ◌||◌}
use Rattle.std.specs.Prelude.{sum_by, not, if◌then◌else◌}
use Rattle.std.proofs.lemmas.List.Sums.{sum_by-cons}
use Rattle.base_words.specs.declared.op.Op.{Op}
use Rattle.base_words.specs.Op.{op_of, operand_of, is_operand}
use Rattle.base_notes.specs.declared.entry.Entry.{Entry}
use Rattle.machine_rotation.specs.Recurs.{never_earlier}
use Rattle.machine_rotation.specs.Waits.{parity_recurs}
use Rattle.machine_steps.specs.Counts.{AreWithin, after_pass}
use Rattle.machine_steps.specs.Timing.{ended, found, reached, ready}
use Rattle.machine_steps.specs.Ways.{Way, early, to, late}
use Rattle.flow_graph.specs.Longest.{longest, longest_by, most_units, most_wait, wait_by}
use Rattle.flow_graph.specs.Walk.{end_by, IsTimed, IsWalkFrom, Setting, Taken}
use Rattle.flow_walks.specs.Visited.{AreLongest, IsWalkOf, Visited, visited}
use Rattle.print_hops.specs.Moments.{is_early, moments_with}
use Rattle.print_hops.specs.Waits.{between, for_cards, for_data, for_instruction, time_of}
use Rattle.print_hops.proofs.AddingUp.{follow, hop_fits, walk_takes, Fits}
use Rattle.print_hops.proofs.Waiting.{found_after, reached_after}

-- ---- of one hop

-- its waits, with that for the card machine, are part of its time
abbrev pub WholeFits : (Op → Entry) → ℕ → Visited → Type 0
WholeFits times angle hop =
    for_instruction times angle hop + for_data times angle hop + for_cards times hop ≤ time_of hop

-- with the moments as they are counted: from the start angle on
moments_fit : (none : Bool) (angle begun f x d e wait : ℕ) → angle + begun ≤ f → f ≤ x → x ≤ d
    → d + wait ≤ angle + e
    → (f - angle - begun) + between (Some (x - angle)) (if none then None else Some (d - angle)) + wait ≤ e - begun
moments_fit true angle begun f x d e wait p q r s = omega (arith, p, q, r, s)
moments_fit false angle begun f x d e wait p q r s = omega (arith, p, q, r, s)

-- it ends when it has its data and has waited, or later
ends_behind : (entry : Entry) (op : Op) (d place units wait clock : ℕ)
    → reached op d (ready entry place clock) + wait ≤ ended entry op d place units wait clock
ends_behind entry op d place units wait clock =
    omega (
      arith,
      never_earlier (parity_recurs entry.parity) (reached op d (ready entry place clock)),
    )

pub hop_whole : (times : Op → Entry) (angle : ℕ) (hop : Visited) (op : Op) → op_of hop.ins.op ≡ Some op
    → angle + hop.ended ≡ longest times hop.place hop.ins hop.way (angle + hop.begun)
    → Fits times angle hop → WholeFits times angle hop
unfolding longest
hop_whole times angle hop op known is fits = go (op_of hop.ins.op) known is fits
  where
    by_way : (op : Op) (way : Way) (suits : Bool)
        → angle + hop.ended
        ≡ end_by way (times op) op hop.ins.d hop.place (most_units op hop.ins.d) (most_wait op (times op))
        (angle + hop.begun)
        → (found hop.place (angle + hop.begun) - angle - hop.begun)
        + between (Some (ready (times op) hop.place (angle + hop.begun) - angle))
        (if is_early way || not suits then None
        else Some (reached op hop.ins.d (ready (times op) hop.place (angle + hop.begun)) - angle))
        ≤ hop.ended - hop.begun
        → (found hop.place (angle + hop.begun) - angle - hop.begun)
        + between (Some (ready (times op) hop.place (angle + hop.begun) - angle))
        (if is_early way || not suits then None
        else Some (reached op hop.ins.d (ready (times op) hop.place (angle + hop.begun)) - angle))
        + (if is_early way then 0 else most_wait op (times op))
        ≤ hop.ended - hop.begun
    by_way op early suits at fits = omega (arith, fits)
    by_way op (to next) suits at fits =
        moments_fit (not suits) angle hop.begun (found hop.place (angle + hop.begun))
        (ready (times op) hop.place (angle + hop.begun))
        (reached op hop.ins.d (ready (times op) hop.place (angle + hop.begun))) hop.ended
        (most_wait op (times op))
        (found_after hop.place (angle + hop.begun)) (omega arith)
        (reached_after op hop.ins.d (ready (times op) hop.place (angle + hop.begun)))
        (omega (
          arith,
          at,
          ends_behind (times op) op hop.ins.d hop.place (most_units op hop.ins.d) (most_wait op (times op))
              (angle + hop.begun),
        ))
    by_way op late suits at fits =
        moments_fit (not suits) angle hop.begun (found hop.place (angle + hop.begun))
        (ready (times op) hop.place (angle + hop.begun))
        (reached op hop.ins.d (ready (times op) hop.place (angle + hop.begun))) hop.ended
        (most_wait op (times op))
        (found_after hop.place (angle + hop.begun)) (omega arith)
        (reached_after op hop.ins.d (ready (times op) hop.place (angle + hop.begun)))
        (omega (
          arith,
          at,
          ends_behind (times op) op hop.ins.d hop.place (most_units op hop.ins.d) (most_wait op (times op))
              (angle + hop.begun),
        ))

    go : (seen : Option Op) → seen ≡ Some op
        → angle + hop.ended ≡ longest_by times hop.place hop.ins hop.way (angle + hop.begun) seen
        → ((moments_with times angle hop.place hop.ins.d hop.way hop.begun seen).found - hop.begun)
        + between (moments_with times angle hop.place hop.ins.d hop.way hop.begun seen).ready
        (moments_with times angle hop.place hop.ins.d hop.way hop.begun seen).operand
        ≤ hop.ended - hop.begun
        → ((moments_with times angle hop.place hop.ins.d hop.way hop.begun seen).found - hop.begun)
        + between (moments_with times angle hop.place hop.ins.d hop.way hop.begun seen).ready
        (moments_with times angle hop.place hop.ins.d hop.way hop.begun seen).operand
        + (if is_early hop.way then 0 else wait_by times seen)
        ≤ hop.ended - hop.begun
    go None none at fits = absurd (cc)
    go (Some seen) same at fits = by_way seen hop.way (is_operand (operand_of seen) hop.ins.d) at fits

-- ---- of all hops

abbrev pub WholeSum : (Op → Entry) → ℕ → List Visited → Type 0
WholeSum times angle walk =
    sum_by (for_instruction times angle) walk + sum_by (for_data times angle) walk
    + sum_by (for_cards times) walk
    ≤ sum_by time_of walk

pub whole_cons : (times : Op → Entry) (angle : ℕ) (hop : Visited) (walk : List Visited)
    → WholeFits times angle hop → WholeSum times angle walk → WholeSum times angle (hop ∷ walk)
whole_cons times angle hop walk fits rest =
    omega (
      arith,
      fits,
      rest,
      sum_by-cons (for_instruction times angle) hop walk,
      sum_by-cons (for_data times angle) hop walk,
      sum_by-cons (for_cards times) hop walk,
      sum_by-cons time_of hop walk,
    )

-- a hop of a walk has an operation
pub known_op : (times : Op → Entry) (angle : ℕ) (hop : Taken) (seen : Option Op) → IsTimed times angle hop seen
    → (op : Op) × (seen ≡ Some op)
known_op times angle hop None timed = absurd timed
known_op times angle hop (Some op) timed = (op, refl)

whole_from : (g : Setting) (angle place time : ℕ) (counts : List ℕ) (hops : List Taken)
    → IsWalkFrom g angle place time counts hops → AreLongest g angle (map visited hops)
    → WholeSum g.times angle (map visited hops)
whole_from g angle place time counts [] walk longest = omega arith
whole_from g angle place time counts (hop ∷ hops) walk longest =
    let op = known_op g.times angle hop (op_of hop.ins.op) walk.0.timed in
    whole_cons g.times angle (visited hop) (map visited hops)
    (hop_whole g.times angle (visited hop) op.0 op.1 longest.0 (hop_fits g.times angle hop walk.0.timed))
    (follow hop.way
    (λ next. AreWithin g.notes.marks (after_pass g.notes.marks place next counts)
    × IsWalkFrom g angle next hop.ended (after_pass g.notes.marks place next counts) hops)
    (λ rest. AreLongest g angle (map visited rest) → WholeSum g.times angle (map visited rest)) hops walk.1
    (λ _. omega arith)
    (λ next right. whole_from g angle next hop.ended (after_pass g.notes.marks place next counts) hops right.1)
    longest.1)

pub whole_fits : (g : Setting) (angle used : ℕ) (walk : List Visited) → IsWalkOf g angle used walk
    → AreLongest g angle walk
    → sum_by (for_instruction g.times angle) walk + sum_by (for_data g.times angle) walk
    + sum_by (for_cards g.times) walk
    ≤ used
whole_fits g angle used walk is longest =
    omega (
      arith,
      subst (WholeSum g.times angle) is.same
          (whole_from g angle g.start 0 _ is.hops is.walk.from_start
          (subst (AreLongest g angle) (sym is.same) longest)),
      ap (sum_by time_of) is.same,
      walk_takes g angle g.start 0 _ is.hops is.walk.from_start,
      is.time,
    )
