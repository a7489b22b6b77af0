-- The times of all kinds of a walk add up to its time, and of each kind the waits are part of its time.
use Rattle.std.proofs.Common.{◌≡◌, ℕ, suc, ◌+◌, ◌-◌, ◌≤◌, Bool, true, false, cond, List, [], ◌∷◌, map}
use Rattle.std.proofs.Common.{refl, ap, sym, ◌∙◌, subst, arith, inl, inr, Option, Some, None, ◌||◌}
use Rattle.std.proofs.lemmas.List.Sums.{sum_by-cons}
use Rattle.std.specs.Prelude.{Contains, slice_get, sum_by, not, if◌then◌else◌}
use Rattle.base_words.specs.declared.op.Op.{Op}
use Rattle.base_words.specs.Op.{op_of, operand_of, is_operand}
use Rattle.base_notes.specs.declared.entry.Entry.{Entry}
use Rattle.machine_rotation.specs.Recurs.{never_earlier}
use Rattle.machine_rotation.specs.Waits.{parity_recurs}
use Rattle.machine_steps.specs.Counts.{AreWithin, after_pass}
use Rattle.machine_steps.specs.Timing.{ended, found, reached, ready}
use Rattle.machine_steps.specs.Ways.{Way, early, to, late}
use Rattle.base_graphs.proofs.Lists.{contains_at, contains_cases, contains_here, contains_none, contains_there}
use Rattle.flow_graph.specs.Walk.{FollowHop, end_by, IsTimed, IsWalkFrom, Setting, Taken, time_from}
use Rattle.flow_graph.proofs.LongestLaws.{end_later}
use Rattle.flow_walks.specs.Visited.{IsWalkOf, Visited, visited}
use Rattle.print_hops.specs.Moments.{is_early, moments_with}
use Rattle.print_hops.specs.Waits.{AreDearestFirst, alike, between, for_data, for_instruction, is_alike, time_alike, time_of}
use Rattle.print_hops.proofs.SameKinds.{alike_equiv}
use Rattle.print_hops.proofs.Waiting.{found_after, reached_after}

-- ---- the times of all kinds

-- No two of these are alike.
AreApart : List Visited → Type 0
AreApart firsts = (i j : ℕ) (a b : Visited) → slice_get firsts i ≡ Some a → slice_get firsts j ≡ Some b
    → is_alike a b ≡ true → i ≡ j

apart_behind : (one : Visited) (firsts : List Visited) → AreApart (one ∷ firsts) → AreApart firsts
unfolding AreApart
apart_behind one firsts apart i j a b p q so = omega (arith, apart (suc i) (suc j) a b p q so)

unlike_behind : (one other : Visited) (firsts : List Visited) → AreApart (one ∷ firsts)
    → Contains firsts other → is_alike one other ≡ true → ⊥
unfolding AreApart
unlike_behind one other firsts apart has so =
    let at = contains_at firsts other has in
    omega (arith, apart 0 (suc at.0) one other refl at.1 so)

-- what one of some kinds has, summed over them
abbrev shares : Visited → ℕ → List Visited → ℕ
shares hop time firsts = sum_by (λ one. cond (is_alike one hop) time 0) firsts

share_cons : (hop : Visited) (time : ℕ) (one : Visited) (firsts : List Visited)
    → shares hop time (one ∷ firsts) ≡ cond (is_alike one hop) time 0 + shares hop time firsts
share_cons hop time one firsts = sum_by-cons (λ (o : Visited). cond (is_alike o hop) time 0) one firsts

no_share : (hop : Visited) (time : ℕ) (firsts : List Visited)
    → ((one : Visited) → Contains firsts one → is_alike one hop ≡ false) → shares hop time firsts ≡ 0
no_share hop time [] none = refl
no_share hop time (one ∷ firsts) none =
    omega (
      arith,
      share_cons hop time one firsts,
      ap (λ (b : Bool). cond b time 0) (none one (contains_here one firsts)),
      no_share hop time firsts (λ other has. none other (contains_there one other firsts has)),
    )

clash : true ≡ false → ⊥
clash e = cc

or_false : (b : Bool) → (b ≡ true → ⊥) → b ≡ false
or_false true never = absurd (never refl)
or_false false never = refl

one_share : (hop : Visited) (time : ℕ) (firsts : List Visited) → AreApart firsts
    → (one : Visited) → Contains firsts one → is_alike one hop ≡ true → shares hop time firsts ≡ time
one_share hop time [] apart one has so = absurd (contains_none one has)
one_share hop time (front ∷ firsts) apart one has so =
    share_cons hop time front firsts
    ∙ go (is_alike front hop) refl (one_share hop time firsts (apart_behind front firsts apart) one)
  where
    go : (b : Bool) → is_alike front hop ≡ b
        → (Contains firsts one → is_alike one hop ≡ true → shares hop time firsts ≡ time)
        → cond b time 0 + shares hop time firsts ≡ time
    go true here rest =
        omega (
          arith,
          no_share hop time firsts (λ other there. or_false (is_alike other hop) (λ alike_too.
              unlike_behind front other firsts apart there
              (alike_equiv.congr front hop other here ∙ alike_equiv.symm hop other ∙ alike_too))),
        )
    go false here rest = elim (contains_cases front one firsts has) [
      | inl same ↦ absurd (clash (sym so ∙ sym (ap (λ (o : Visited). is_alike o hop) same) ∙ here))
      | inr behind ↦ omega (arith, rest behind so)
    ]

-- the time of a kind with a hop more in front
time_cons : (one hop : Visited) (walk : List Visited)
    → time_alike (hop ∷ walk) one ≡ cond (is_alike one hop) (time_of hop) 0 + time_alike walk one
time_cons one hop walk = go (is_alike one hop)
  where
    go : (b : Bool) → sum_by time_of (cond b (hop ∷ alike one walk) (alike one walk))
        ≡ cond b (time_of hop) 0 + time_alike walk one
    go true = sum_by-cons time_of hop (alike one walk)
    go false = omega arith

kinds_cons : (hop : Visited) (walk firsts : List Visited)
    → sum_by (time_alike (hop ∷ walk)) firsts
    ≡ shares hop (time_of hop) firsts + sum_by (time_alike walk) firsts
kinds_cons hop walk [] = refl
kinds_cons hop walk (one ∷ firsts) =
    omega (
      arith,
      kinds_cons hop walk firsts,
      time_cons one hop walk,
      share_cons hop (time_of hop) one firsts,
      sum_by-cons (time_alike (hop ∷ walk)) one firsts,
      sum_by-cons (time_alike walk) one firsts,
    )

no_hops : (firsts : List Visited) → sum_by (time_alike []) firsts ≡ 0
no_hops [] = refl
no_hops (one ∷ firsts) = omega (arith, no_hops firsts, sum_by-cons (time_alike []) one firsts)

kinds_all : (firsts : List Visited) → AreApart firsts → (walk : List Visited)
    → ((hop : Visited) → Contains walk hop
    → (one : Visited) × Contains firsts one × (is_alike one hop ≡ true))
    → sum_by (time_alike walk) firsts ≡ sum_by time_of walk
kinds_all firsts apart [] all = no_hops firsts
kinds_all firsts apart (hop ∷ walk) all =
    let own = all hop (contains_here hop walk) in
    omega (
      arith,
      kinds_cons hop walk firsts,
      sum_by-cons time_of hop walk,
      one_share hop (time_of hop) firsts apart own.0 own.1 own.2,
      kinds_all firsts apart walk (λ other has. all other (contains_there hop other walk has)),
    )

-- what follows a hop
pub follow : (way : Way) (Right : ℕ → Type 0) (P : List Taken → Type 0) (hops : List Taken) → FollowHop way Right hops
    → P [] → ((next : ℕ) → Right next → P hops) → P hops
follow early Right P hops none begin next = subst P (sym none) begin
follow (to target) Right P hops right begin next = next target right
follow late Right P hops none begin next = subst P (sym none) begin

-- a hop ends no earlier than it begins
ends_later : (times : Op → Entry) (angle : ℕ) (hop : Taken) (op : Option Op) → IsTimed times angle hop op
    → hop.begun ≤ hop.ended
ends_later times angle hop None timed = absurd timed
ends_later times angle hop (Some op) timed =
    omega (arith, timed.2, end_later (times op) op hop.ins.d hop.place hop.units hop.wait hop.way (angle + hop.begun))

-- the hops of a walk take all of its time
pub walk_takes : (g : Setting) (angle place time : ℕ) (counts : List ℕ) (hops : List Taken)
    → IsWalkFrom g angle place time counts hops
    → time + sum_by time_of (map visited hops) ≡ time_from time hops
walk_takes g angle place time counts [] walk = omega arith
walk_takes g angle place time counts (hop ∷ hops) walk =
    let rest : hop.ended + sum_by time_of (map visited hops) ≡ time_from hop.ended hops =
    follow hop.way
    (λ next. AreWithin g.notes.marks (after_pass g.notes.marks place next counts)
    × IsWalkFrom g angle next hop.ended (after_pass g.notes.marks place next counts) hops)
    (λ rest. hop.ended + sum_by time_of (map visited rest) ≡ time_from hop.ended rest) hops walk.1 (omega arith)
    (λ next right. walk_takes g angle next hop.ended (after_pass g.notes.marks place next counts) hops right.1) in
    omega (
      arith,
      rest,
      walk.0.begins,
      ends_later g.times angle hop (op_of hop.ins.op) walk.0.timed,
      sum_by-cons time_of (visited hop) (map visited hops),
    )

-- The times of all kinds of a walk add up to what is used.
pub kinds_add_up : (g : Setting) (angle used : ℕ) (walk firsts : List Visited) → IsWalkOf g angle used walk
    → AreDearestFirst walk firsts → sum_by (time_alike walk) firsts ≡ used
unfolding AreApart
kinds_add_up g angle used walk firsts is kinds =
    kinds_all firsts kinds.apart walk kinds.all
    ∙ ap (sum_by time_of) (sym is.same)
    ∙ omega (arith, walk_takes g angle g.start 0 _ is.hops is.walk.from_start, is.time)

-- ---- the columns of a kind

-- its waits are part of its time
abbrev pub Fits : (Op → Entry) → ℕ → Visited → Type 0
Fits times angle hop = for_instruction times angle hop + for_data times angle hop ≤ time_of hop

-- with the moments as they are counted: from the start angle on
moments_fit : (early_or_none : Bool) (angle begun f x d e : ℕ) → angle + begun ≤ f → f ≤ x → x ≤ d
    → (early_or_none ≡ true → x ≤ angle + e) → (early_or_none ≡ false → d ≤ angle + e)
    → (f - angle - begun)
    + between (Some (x - angle)) (if early_or_none then None else Some (d - angle)) ≤ e - begun
moments_fit true angle begun f x d e p q r ends_early ends = omega (arith, ends_early refl)
moments_fit false angle begun f x d e p q r ends_early ends = omega (arith, ends refl)

-- a hop that acts ends when it has its data, or later
pub ends_behind : (entry : Entry) (op : Op) (d place units wait clock : ℕ)
    → reached op d (ready entry place clock) ≤ ended entry op d place units wait clock
ends_behind entry op d place units wait clock =
    omega (
      arith,
      never_earlier (parity_recurs entry.parity) (reached op d (ready entry place clock)),
    )

pub hop_fits : (times : Op → Entry) (angle : ℕ) (hop : Taken) → IsTimed times angle hop (op_of hop.ins.op)
    → Fits times angle (visited hop)
hop_fits times angle hop = go (op_of hop.ins.op)
  where
    by_way : (op : Op) (way : Way) (suits : Bool)
        → angle + hop.ended
        ≡ end_by way (times op) op hop.ins.d hop.place hop.units hop.wait (angle + hop.begun)
        → (found hop.place (angle + hop.begun) - angle - hop.begun)
        + between (Some (ready (times op) hop.place (angle + hop.begun) - angle))
        (if is_early way || not suits then None
        else Some (reached op hop.ins.d (ready (times op) hop.place (angle + hop.begun)) - angle))
        ≤ hop.ended - hop.begun
    by_way op early suits at =
        moments_fit true angle hop.begun (found hop.place (angle + hop.begun))
        (ready (times op) hop.place (angle + hop.begun))
        (reached op hop.ins.d (ready (times op) hop.place (angle + hop.begun))) hop.ended
        (found_after hop.place (angle + hop.begun)) (omega arith)
        (reached_after op hop.ins.d (ready (times op) hop.place (angle + hop.begun)))
        (λ e. omega (arith, at)) (λ e. absurd (clash e))
    by_way op (to next) suits at =
        moments_fit (not suits) angle hop.begun (found hop.place (angle + hop.begun))
        (ready (times op) hop.place (angle + hop.begun))
        (reached op hop.ins.d (ready (times op) hop.place (angle + hop.begun))) hop.ended
        (found_after hop.place (angle + hop.begun)) (omega arith)
        (reached_after op hop.ins.d (ready (times op) hop.place (angle + hop.begun)))
        (λ e. omega (
          arith,
          at,
          reached_after op hop.ins.d (ready (times op) hop.place (angle + hop.begun)),
          ends_behind (times op) op hop.ins.d hop.place hop.units hop.wait (angle + hop.begun),
        ))
        (λ e. omega (
          arith,
          at,
          ends_behind (times op) op hop.ins.d hop.place hop.units hop.wait (angle + hop.begun),
        ))
    by_way op late suits at =
        moments_fit (not suits) angle hop.begun (found hop.place (angle + hop.begun))
        (ready (times op) hop.place (angle + hop.begun))
        (reached op hop.ins.d (ready (times op) hop.place (angle + hop.begun))) hop.ended
        (found_after hop.place (angle + hop.begun)) (omega arith)
        (reached_after op hop.ins.d (ready (times op) hop.place (angle + hop.begun)))
        (λ e. omega (
          arith,
          at,
          reached_after op hop.ins.d (ready (times op) hop.place (angle + hop.begun)),
          ends_behind (times op) op hop.ins.d hop.place hop.units hop.wait (angle + hop.begun),
        ))
        (λ e. omega (
          arith,
          at,
          ends_behind (times op) op hop.ins.d hop.place hop.units hop.wait (angle + hop.begun),
        ))

    go : (op : Option Op) → IsTimed times angle hop op
        → ((moments_with times angle hop.place hop.ins.d hop.way hop.begun op).found - hop.begun)
        + between (moments_with times angle hop.place hop.ins.d hop.way hop.begun op).ready
        (moments_with times angle hop.place hop.ins.d hop.way hop.begun op).operand
        ≤ hop.ended - hop.begun
    go None timed = absurd timed
    go (Some op) timed = by_way op hop.way (is_operand (operand_of op) hop.ins.d) timed.2

-- of hops of one kind
abbrev KindFits : (Op → Entry) → ℕ → Visited → List Visited → Type 0
KindFits times angle one walk =
    sum_by (for_instruction times angle) (alike one walk) + sum_by (for_data times angle) (alike one walk)
    ≤ time_alike walk one

kind_fits_cons : (times : Op → Entry) (angle : ℕ) (one hop : Visited) (walk : List Visited)
    → Fits times angle hop → KindFits times angle one walk → KindFits times angle one (hop ∷ walk)
kind_fits_cons times angle one hop walk fits rest = go (is_alike one hop)
  where
    go : (b : Bool)
        → sum_by (for_instruction times angle) (cond b (hop ∷ alike one walk) (alike one walk))
        + sum_by (for_data times angle) (cond b (hop ∷ alike one walk) (alike one walk))
        ≤ sum_by time_of (cond b (hop ∷ alike one walk) (alike one walk))
    go true =
        omega (
          arith,
          fits,
          rest,
          sum_by-cons (for_instruction times angle) hop (alike one walk),
          sum_by-cons (for_data times angle) hop (alike one walk),
          sum_by-cons time_of hop (alike one walk),
        )
    go false = rest

kind_fits_from : (g : Setting) (angle place time : ℕ) (counts : List ℕ) (hops : List Taken) (one : Visited)
    → IsWalkFrom g angle place time counts hops → KindFits g.times angle one (map visited hops)
kind_fits_from g angle place time counts [] one walk = omega arith
kind_fits_from g angle place time counts (hop ∷ hops) one walk =
    kind_fits_cons g.times angle one (visited hop) (map visited hops) (hop_fits g.times angle hop walk.0.timed)
    (follow hop.way
    (λ next. AreWithin g.notes.marks (after_pass g.notes.marks place next counts)
    × IsWalkFrom g angle next hop.ended (after_pass g.notes.marks place next counts) hops)
    (λ rest. KindFits g.times angle one (map visited rest)) hops walk.1 (omega arith)
    (λ next right. kind_fits_from g angle next hop.ended (after_pass g.notes.marks place next counts) hops one right.1))

-- The waits of a kind are part of its time.
pub kind_fits : (g : Setting) (angle used : ℕ) (walk : List Visited) (one : Visited) → IsWalkOf g angle used walk
    → KindFits g.times angle one walk
kind_fits g angle used walk one is =
    subst (KindFits g.times angle one) is.same
    (kind_fits_from g angle g.start 0 _ is.hops one is.walk.from_start)
