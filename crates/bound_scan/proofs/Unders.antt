-- Why each step of a kept run that goes on arrives under an entry of the table.
use Rattle.std.specs.Prelude.{◌≡◌, ℕ, ◌<◌, List, [], ◌∷◌, ◌++◌}
use Rattle.std.proofs.Common.{refl, sym, subst}
use Rattle.machine_steps.specs.declared.why.Why as whys
use Rattle.machine_steps.specs.declared.why.Why.TheVariants as why
use Rattle.machine_steps.specs.Counts.{after_pass, no_counts, AreWithin}
use Rattle.machine_steps.specs.Ending.{stops_by}
use Rattle.machine_steps.specs.Keeps.{IsKept}
use Rattle.machine_steps.specs.Run.{Stride, IsRun, IsFirstState}
use Rattle.machine_steps.specs.Step.{State, Stepped, on, stopped}
use Rattle.machine_steps.specs.Ways.{Way, early, to, late}
use Rattle.flow_graph.specs.Accepted.{IsAccepted, IsFixed}
use Rattle.flow_graph.specs.RunHops.{hop_of, hops_taken}
use Rattle.machine_steps.proofs.Returning.{none_to_keep}
use Rattle.flow_graph.specs.Walk.{Setting, Taken, IsProper, FollowHop, IsWalkFrom, IsWalk, edges_taken}
use Rattle.flow_graph.proofs.KeptWalk.{kept_walk}
use Rattle.bound_scan.specs.Table.{number_of, GoesOn, Arrive, IsReached, Row, IsTable}
use Rattle.bound_scan.specs.Under.{IsUnder, ArriveUnder}

-- nothing is taken after a stop
stop_follows : (because : whys.Why) (Right : ℕ → Type 0) (hops : List Taken) → FollowHop (stops_by because) Right hops
    → hops ≡ []
stop_follows why.Operation Right hops none = none
stop_follows why.Operand Right hops none = none
stop_follows why.Card Right hops none = none
stop_follows why.Quotient Right hops none = none
stop_follows why.Overflow Right hops none = none
stop_follows why.Digit Right hops none = none
stop_follows why.Programmed Right hops none = none
stop_follows why.Next Right hops none = none

module _ (g : Setting) where
  -- the counts after a step from one location to another
  abbrev after : ℕ → ℕ → List ℕ → List ℕ
  after place next counts = after_pass g.notes.marks place next counts

  -- a walk from the deck's start, and where it arrives
  abbrev Walks : ℕ → List Taken → Type 0
  Walks angle prefix = IsWalkFrom g angle g.start 0 (no_counts g.notes.marks) prefix

  abbrev Arrives : List Taken → ℕ → ℕ → List ℕ → Type 0
  Arrives prefix from used passes = Arrive g g.start 0 (no_counts g.notes.marks) prefix from used passes

  -- one hop that goes on arrives where it goes on to
  arrive_one : (place time : ℕ) (counts : List ℕ) (next : ℕ) (hop : Taken) → hop.way ≡ to next
      → Arrive g place time counts (hop ∷ []) next hop.ended (after place next counts)
  arrive_one place time counts next hop onto =
      subst (λ (way : Way).
      GoesOn way (λ target. (target ≡ next) × (hop.ended ≡ hop.ended)
      × (after place target counts ≡ after place next counts)))
      (sym onto) (refl, refl, refl)

  -- hops that arrive somewhere, and one more that goes on from there, arrive where it goes on to
  arrive_more : (prefix : List Taken) (place time : ℕ) (counts : List ℕ) (from used next : ℕ) (passes : List ℕ)
      (hop : Taken)
      → Arrive g place time counts prefix from used passes → hop.way ≡ to next
      → Arrive g place time counts (prefix ++ hop ∷ []) next hop.ended (after from next passes)
  arrive_more [] place time counts from used next passes hop arrives onto =
      let Right : ℕ → List ℕ → Type 0 =
      λ at passed. Arrive g place time counts (hop ∷ []) next hop.ended (after at next passed) in
      subst (Right from) arrives.2
      (subst (λ (at : ℕ). Right at counts) arrives.0 (arrive_one place time counts next hop onto))
  arrive_more (first ∷ prefix) place time counts from used next passes hop arrives onto =
      go first.way arrives
      (λ target goes. arrive_more prefix target first.ended (after place target counts) from used next passes hop goes
      onto)
    where
      Goes : ℕ → Type 0
      Goes target = Arrive g target first.ended (after place target counts) prefix from used passes

      GoesFurther : ℕ → Type 0
      GoesFurther target =
          Arrive g target first.ended (after place target counts) (prefix ++ hop ∷ []) next hop.ended
          (after from next passes)

      go : (way : Way) → GoesOn way Goes → ((target : ℕ) → Goes target → GoesFurther target) → GoesOn way GoesFurther
      go early goes further = absurd goes
      go (to target) goes further = further target goes
      go late goes further = absurd goes

  -- a walk that arrives somewhere, and one hop from there, are a walk
  walk_more : (angle : ℕ) (prefix : List Taken) (place time : ℕ) (counts : List ℕ) (from used : ℕ) (passes : List ℕ)
      (hop : Taken)
      → IsWalkFrom g angle place time counts prefix → Arrive g place time counts prefix from used passes
      → IsWalkFrom g angle from used passes (hop ∷ []) → IsWalkFrom g angle place time counts (prefix ++ hop ∷ [])
  walk_more angle [] place time counts from used passes hop walk arrives last =
      subst (λ (at : ℕ). IsWalkFrom g angle at time counts (hop ∷ [])) (sym arrives.0)
      (subst (λ (moment : ℕ). IsWalkFrom g angle from moment counts (hop ∷ [])) (sym arrives.1)
      (subst (λ (passed : List ℕ). IsWalkFrom g angle from used passed (hop ∷ [])) (sym arrives.2) last))
  walk_more angle (first ∷ prefix) place time counts from used passes hop walk arrives last = (
    walk.0,
    go first.way walk.1 arrives (λ target walks goes.
        walk_more angle prefix target first.ended (after place target counts) from used passes hop walks goes last),
  )
    where
      Goes : ℕ → Type 0
      Goes target = Arrive g target first.ended (after place target counts) prefix from used passes

      WalksOn : List Taken → ℕ → Type 0
      WalksOn hops target = IsWalkFrom g angle target first.ended (after place target counts) hops

      Right : List Taken → ℕ → Type 0
      Right hops target = AreWithin g.notes.marks (after place target counts) × WalksOn hops target

      go : (way : Way) → FollowHop way (Right prefix) prefix → GoesOn way Goes
          → ((target : ℕ) → WalksOn prefix target → Goes target → WalksOn (prefix ++ hop ∷ []) target)
          → FollowHop way (Right (prefix ++ hop ∷ [])) (prefix ++ hop ∷ [])
      go early walks goes further = absurd goes
      go (to target) walks goes further = (walks.0, further target walks.1 goes)
      go late walks goes further = absurd goes

  module _ (rows : List Row) (table : IsTable g rows) (angle : ℕ) (on_drum : angle < 50)
      (without : g.notes.calls ≡ []) where
    -- what is reached has an entry, of no smaller time
    reached_under : (place time : ℕ) (passes : List ℕ) → IsReached g angle place (number_of g.notes.marks passes) time
        → IsUnder g.notes.marks rows place passes time
    reached_under place time passes reached =
        let counts : ℕ = number_of g.notes.marks passes in
        let entry = table.all angle place counts time reached in
        let row : Row = entry.0 in
        let at_place : IsReached g angle row.place counts time =
        subst (λ (at : ℕ). IsReached g angle at counts time) (sym entry.2) reached in
        let at_entry : IsReached g angle row.place row.counts time =
        subst (λ (number : ℕ). IsReached g angle row.place number time) (sym entry.3) at_place in
        (row, entry.1, entry.2, entry.3, (table.right row entry.1).most angle time at_entry)

    -- a hop that goes on, behind a walk that arrives where it begins, arrives under an entry
    hop_under : (prefix : List Taken) (from used next : ℕ) (passes : List ℕ) (hop : Taken) → Walks angle prefix
        → Arrives prefix from used passes
        → IsWalkFrom g angle from used passes (hop ∷ []) → hop.way ≡ to next
        → IsUnder g.notes.marks rows next (after from next passes) hop.ended
    hop_under prefix from used next passes hop walk arrives last onto =
        let none : List ℕ = no_counts g.notes.marks in
        reached_under next hop.ended (after from next passes)
        (record {
          hops = prefix ++ hop ∷ [];
          walk = record {
            on_drum = on_drum;
            from_start =
                walk_more angle prefix g.start 0 none from used passes hop walk arrives last;
            back = none_to_keep g.notes.calls _ (edges_taken (prefix ++ hop ∷ [])) without;
          };
          passes = after from next passes;
          number = refl;
          arrives = arrive_more prefix g.start 0 none from used next passes hop arrives onto;
        })

    -- of these strides, behind a walk that arrives where they begin, each that goes on arrives under an entry
    abbrev UnderBehind : List Stride → Type 0
    UnderBehind strides = (prefix : List Taken) (from used : ℕ) (passes : List ℕ) → Walks angle prefix
        → Arrives prefix from used passes
        → IsWalkFrom g angle from used passes (hops_taken strides) → ArriveUnder g.notes rows passes strides

    -- strides without hops are none
    none_under : (strides : List Stride) (passes : List ℕ) → hops_taken strides ≡ [] → ArriveUnder g.notes rows passes strides
    none_under [] passes none = tt
    none_under (stride ∷ strides) passes none = absurd (cc)

    -- a stride by its parts
    abbrev stride_of : State → ℕ → Stepped → Stride
    stride_of s wait outcome = record { origin = s; wait = wait; outcome = outcome }

    -- a stride from where a walk arrives, and what follows it
    stride_under : (s : State) (wait : ℕ) (outcome : Stepped) (strides : List Stride) → UnderBehind strides
        → (prefix : List Taken) (used : ℕ) (passes : List ℕ) → Walks angle prefix → Arrives prefix s.sought used passes
        → IsWalkFrom g angle s.sought used passes (hops_taken (stride_of s wait outcome ∷ strides))
        → ArriveUnder g.notes rows passes (stride_of s wait outcome ∷ strides)
    stride_under s wait (on next) strides behind prefix used passes walk arrives left =
        let none : List ℕ = no_counts g.notes.marks in
        let hop : Taken = hop_of (stride_of s wait (on next)) in
        let last : IsWalkFrom g angle s.sought used passes (hop ∷ []) = (left.0, (left.1.0, tt)) in (
          hop_under prefix s.sought used next.sought passes hop walk arrives last refl,
          behind (prefix ++ hop ∷ []) next.sought next.time (after s.sought next.sought passes)
              (walk_more angle prefix g.start 0 none s.sought used passes hop walk arrives last)
              (arrive_more prefix g.start 0 none s.sought used next.sought passes hop arrives refl)
              left.1.1,
        )
    stride_under s wait (stopped held because moment) strides behind prefix used passes walk arrives left =
        (tt, none_under strides passes (stop_follows because _ (hops_taken strides) left.1))

    -- strides from where a walk arrives, one after the other
    turns_under : (strides : List Stride) → UnderBehind strides
    turns_under [] prefix from used passes walk arrives left = tt
    turns_under (stride ∷ strides) prefix from used passes walk arrives left =
        let here : from ≡ stride.origin.sought = sym left.0.here in
        stride_under stride.origin stride.wait stride.outcome strides (turns_under strides) prefix used passes walk
        (subst (λ (at : ℕ). Arrives prefix at used passes) here arrives)
        (subst (λ (at : ℕ). IsWalkFrom g angle at used passes (hops_taken (stride ∷ strides))) here left)

-- Each step of a kept run that goes on arrives under an entry of the table.
pub arrive_under : (g : Setting) (rows : List Row) (executed : List ℕ) (s : State) (strides : List Stride) → IsTable g rows
    → IsProper g
    → IsAccepted g.loads g.notes g.start executed → IsFirstState g.loads (IsFixed g.loads g.notes g.start) g.start s
    → IsRun g.times s strides
    → IsKept g.loads g.notes s strides → ArriveUnder g.notes rows (no_counts g.notes.marks) strides
arrive_under g rows executed s strides table proper accepted first is_run kept =
    let walk : IsWalk g s.first_angle (hops_taken strides) =
    (kept_walk g executed s strides proper accepted.admitted first is_run kept).0 in
    turns_under g rows table s.first_angle walk.on_drum accepted.plain strides [] g.start 0
    (no_counts g.notes.marks) tt (refl, refl, refl) walk.from_start
