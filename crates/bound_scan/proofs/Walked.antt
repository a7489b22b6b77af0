-- The walks of what a scan keeps: some walk from the start ends a hop, or goes on at a key's location, just then.
use Rattle.std.proofs.Common.{◌≡◌, ℕ, zero, suc, ◌+◌, ◌-◌, ◌<◌, ◌≤◌, List, [], ◌∷◌, refl, ap, sym, ◌∙◌, subst, Option}
use Rattle.std.proofs.Common.{Some, None, arith}
use Rattle.std.specs.Prelude.{Contains}
use Rattle.base_words.specs.Op.{op_of}
use Rattle.machine_steps.specs.Counts.{after_pass, no_counts, AreWithin}
use Rattle.machine_steps.specs.Ways.{Way, early, to, late}
use Rattle.base_graphs.proofs.Lists.{contains_from_get}
use Rattle.flow_graph.specs.Hops.{Hop, hops}
use Rattle.flow_graph.specs.Walk.{Setting, Taken, IsTimed, IsHopAt, FollowHop, IsWalkFrom, time_from}
use Rattle.flow_graph.specs.Longest.{most_wait}
use Rattle.flow_graph.proofs.LongestLaws.{longest_later, longest_is_timed}
use Rattle.flow_graph.proofs.Profiles.{hop_may_end}
use Rattle.flow_graph.specs.Longest.{units_by, wait_by}
use Rattle.bound_scan.specs.declared.latest.Latest.{Latest}
use Rattle.bound_scan.specs.declared.key_hop.KeyHop.{KeyHop}
use Rattle.bound_scan.specs.Keys.{keys_of, place_at, counts_at, IsKey, IsOrdered}
use Rattle.bound_scan.specs.Scanned.{cell_at, end_from, LeadsOn, IsOpen, IsEndOf, IsBackedBy, Scanned}
use Rattle.bound_scan.specs.Table.{start_angle, GoesOn, Arrive}
use Rattle.bound_scan.specs.TakenOf.{taken_of}

-- Some walk from the angle behind the start's, with nothing used and no mark passed, goes on at the key's location at
-- this clock by these hops: it has their time, and arrives where they do.
abbrev pub ComesFromStart : Setting → List ℕ → ℕ → ℕ → List Taken → Type 0
ComesFromStart g order key clock more =
    (hops : List Taken)
    × IsWalkFrom g (start_angle g.start) g.start 0 (no_counts g.notes.marks) hops
    × (time_from 0 hops ≡ time_from (clock - start_angle g.start) more)
    × ((place time : ℕ) (counts : List ℕ)
    → Arrive g (place_at order key) (clock - start_angle g.start) (counts_at g.notes.marks order key) more place time
    counts
    → Arrive g g.start 0 (no_counts g.notes.marks) hops place time counts)

-- a longest hop is right from this angle, between the clocks that it begins and ends at
timed_of : (g : Setting) (order : List ℕ) (key : ℕ) (hop : Hop) (angle begun : ℕ)
    → Contains (hops g.loads g.notes (place_at order key)) hop
    → IsTimed g.times angle (taken_of g order key hop begun (end_from g order key hop (angle + begun) - angle))
    (op_of hop.ins.op)
timed_of g order key hop angle begun there =
    let place : ℕ = place_at order key in
    let ended : ℕ = end_from g order key hop (angle + begun) - angle in
    let may = hop_may_end g.loads g.notes place hop.ins hop.way there in
    let timed = longest_is_timed g.times place hop.ins hop.way angle begun may.0 may.1 in
    let Timed : ℕ → ℕ → Type 0 = λ units wait.
    IsTimed g.times angle
    (record {
      place = place;
      ins = hop.ins;
      way = hop.way;
      units = units;
      wait = wait;
      begun = begun;
      ended =
          ended;
    }) (op_of hop.ins.op) in
    let with_units : Timed (units_by hop.ins.d (op_of hop.ins.op)) (most_wait may.0 (g.times may.0)) =
    subst (λ (units : ℕ). Timed units (most_wait may.0 (g.times may.0))) (ap (units_by hop.ins.d) (sym may.1)) timed in
    subst (λ (wait : ℕ). Timed (units_by hop.ins.d (op_of hop.ins.op)) wait) (ap (wait_by g.times) (sym may.1)) with_units

module _ (g : Setting) (order : List ℕ) (cells : List (Option Latest)) (last : Latest)
    (ordered : IsOrdered g.loads g.notes g.start order) (starts : g.start < 2000)
    (s : Scanned g order (keys_of g.notes.marks order) (keys_of g.notes.marks order) cells last) where
  -- what is kept at one of the first keys is no earlier than the start
  not_before_below : (bound key : ℕ) (kept : Latest) → key < bound → cell_at cells key ≡ Some kept
      → start_angle g.start ≤ kept.clock
  not_before_below zero key kept below there = absurd (omega (arith, below))
  not_before_below (suc bound) key kept below there =
      go kept.origin (s.backed key kept there)
      (λ earlier one before at. not_before_below bound earlier one (omega (arith, before, below)) at)
    where
      go : (origin : Option KeyHop) → IsBackedBy g order (keys_of g.notes.marks order) cells key kept.clock origin
          → ((earlier : ℕ) (one : Latest) → earlier < key → cell_at cells earlier ≡ Some one
          → start_angle g.start ≤ one.clock)
          → start_angle g.start ≤ kept.clock
      go None is further = omega (arith, is.1)
      go (Some origin) is further =
          omega (
            arith,
            is.0.end,
            further origin.key is.0.kept is.1.later is.0.there,
            longest_later g.times (place_at order origin.key) is.0.hop.ins is.0.hop.way is.0.kept.clock,
          )

  -- Nothing that is kept is earlier than the start.
  pub not_before : (key : ℕ) (kept : Latest) → cell_at cells key ≡ Some kept → start_angle g.start ≤ kept.clock
  not_before key kept there = not_before_below (key + 1) key kept (omega arith) there

  -- the hop that a clock is the latest end of, as a hop of a walk
  hop_at : (origin : KeyHop) (clock : ℕ) → (e : IsEndOf g order (keys_of g.notes.marks order) cells origin clock)
      → IsHopAt g (start_angle g.start) (place_at order origin.key) (e.kept.clock - start_angle g.start)
      (taken_of g order origin.key e.hop (e.kept.clock - start_angle g.start) (clock - start_angle g.start))
  hop_at origin clock e =
      let angle : ℕ = start_angle g.start in
      let hop : Hop = e.hop in
      let same : angle + (e.kept.clock - angle) ≡ e.kept.clock = omega (arith, not_before origin.key e.kept e.there) in
      let ends : end_from g order origin.key hop (angle + (e.kept.clock - angle)) - angle ≡ clock - angle =
      ap (λ (from : ℕ). end_from g order origin.key hop from - angle) same
      ∙ ap (λ (end : ℕ). end - angle) (sym e.end) in
      record {
        here = refl;
        allowed = contains_from_get (hops g.loads g.notes (place_at order origin.key)) origin.number e.hop e.is;
        begins = refl;
        timed = subst (λ (ended : ℕ).
            IsTimed g.times angle (taken_of g order origin.key hop (e.kept.clock - angle) ended) (op_of hop.ins.op))
            ends
            (timed_of g order origin.key hop angle (e.kept.clock - angle)
            (contains_from_get (hops g.loads g.notes (place_at order origin.key)) origin.number hop e.is));
      }

  -- A hop from one key to another goes before a walk from there on.
  pub hop_before : (origin : KeyHop) (clock key : ℕ) (more : List Taken)
      → (e : IsEndOf g order (keys_of g.notes.marks order) cells origin clock)
      → LeadsOn g order origin.key e.hop key
      → IsWalkFrom g (start_angle g.start) (place_at order key) (clock - start_angle g.start)
      (counts_at g.notes.marks order key) more
      → IsWalkFrom g (start_angle g.start) (place_at order origin.key) (e.kept.clock - start_angle g.start)
      (counts_at g.notes.marks order origin.key)
      (taken_of g order origin.key e.hop (e.kept.clock - start_angle g.start) (clock - start_angle g.start) ∷ more)
  hop_before origin clock key more e leads walk =
      let Right : ℕ → Type 0 = λ next.
      AreWithin g.notes.marks
      (after_pass g.notes.marks (place_at order origin.key) next (counts_at g.notes.marks order origin.key))
      × IsWalkFrom g (start_angle g.start) next (clock - start_angle g.start)
      (after_pass g.notes.marks (place_at order origin.key) next (counts_at g.notes.marks order origin.key)) more in
      let right : Right (place_at order key) = (
        subst (AreWithin g.notes.marks) leads.passed leads.within,
        subst (λ (counts : List ℕ).
            IsWalkFrom g (start_angle g.start) (place_at order key) (clock - start_angle g.start) counts more)
            leads.passed walk,
      ) in
      (hop_at origin clock e, subst (λ (way : Way). FollowHop way Right more) (sym leads.onto) right)

  -- A hop that no full mark bars is a walk from its key on.
  pub hop_last : (origin : KeyHop) (clock : ℕ) → (e : IsEndOf g order (keys_of g.notes.marks order) cells origin clock)
      → IsOpen g order origin.key e.hop.way
      → IsWalkFrom g (start_angle g.start) (place_at order origin.key) (e.kept.clock - start_angle g.start)
      (counts_at g.notes.marks order origin.key)
      (taken_of g order origin.key e.hop (e.kept.clock - start_angle g.start) (clock - start_angle g.start) ∷ [])
  hop_last origin clock e passes = (hop_at origin clock e, go e.hop.way passes)
    where
      go : (way : Way) → IsOpen g order origin.key way
          → FollowHop way (λ next.
          let passed = after_pass g.notes.marks (place_at order origin.key) next
          (counts_at g.notes.marks order origin.key) in
          AreWithin g.notes.marks passed
          × IsWalkFrom g (start_angle g.start) next (clock - start_angle g.start) passed []) []
      go early is = refl
      go (to next) is = (is, tt)
      go late is = refl

  -- hops from the start's key on, at the start's clock, are a walk's
  from_start : (key clock : ℕ) (more : List Taken) → IsKey g.notes.marks order key g.start (no_counts g.notes.marks)
      → clock ≡ start_angle g.start
      → IsWalkFrom g (start_angle g.start) (place_at order key) (clock - start_angle g.start)
      (counts_at g.notes.marks order key) more
      → ComesFromStart g order key clock more
  from_start key clock more is now walk =
      let angle : ℕ = start_angle g.start in
      let nothing : clock - angle ≡ 0 = omega (arith, now) in
      let at_start = subst
      (λ (place : ℕ). IsWalkFrom g angle place (clock - angle) (counts_at g.notes.marks order key) more) is.at
      walk in
      let unpassed = subst (λ (counts : List ℕ). IsWalkFrom g angle g.start (clock - angle) counts more) is.passed
      at_start in (
        more,
        subst (λ (time : ℕ). IsWalkFrom g angle g.start time (no_counts g.notes.marks) more) nothing unpassed,
        ap (λ (time : ℕ). time_from time more) (sym nothing),
        λ place time counts arrives.
            let from_place = subst
            (λ (at : ℕ). Arrive g at (clock - angle) (counts_at g.notes.marks order key) more place time counts)
            is.at arrives in
            let from_counts = subst
            (λ (passed : List ℕ). Arrive g g.start (clock - angle) passed more place time counts) is.passed
            from_place in
            subst (λ (used : ℕ). Arrive g g.start used (no_counts g.notes.marks) more place time counts) nothing
            from_counts,
      )

  -- where hops from an earlier key on come from the start, so do those behind the first
  from_earlier : (origin : KeyHop) (clock key : ℕ) (more : List Taken)
      → (e : IsEndOf g order (keys_of g.notes.marks order) cells origin clock)
      → LeadsOn g order origin.key e.hop key
      → ComesFromStart g order origin.key e.kept.clock
      (taken_of g order origin.key e.hop (e.kept.clock - start_angle g.start) (clock - start_angle g.start) ∷ more)
      → ComesFromStart g order key clock more
  from_earlier origin clock key more e leads comes =
      let angle : ℕ = start_angle g.start in (
        comes.0,
        comes.1,
        comes.2,
        λ place time counts arrives.
            let from_passed = subst
            (λ (passed : List ℕ). Arrive g (place_at order key) (clock - angle) passed more place time counts)
            leads.passed arrives in
            comes.3 place time counts (
            subst (λ (way : Way).
            GoesOn way (λ next. Arrive g next (clock - angle)
            (after_pass g.notes.marks (place_at order origin.key) next (counts_at g.notes.marks order origin.key))
            more place time counts))
            (sym leads.onto) from_passed
            ),
      )

  comes_below : (bound key : ℕ) (kept : Latest) → key < bound → cell_at cells key ≡ Some kept → (more : List Taken)
      → IsWalkFrom g (start_angle g.start) (place_at order key) (kept.clock - start_angle g.start)
      (counts_at g.notes.marks order key) more
      → ComesFromStart g order key kept.clock more
  comes_below zero key kept below there more walk = absurd (omega (arith, below))
  comes_below (suc bound) key kept below there more walk =
      go kept.origin (s.backed key kept there)
      (λ earlier one before at hops from. comes_below bound earlier one (omega (arith, before, below)) at hops from)
    where
      go : (origin : Option KeyHop) → IsBackedBy g order (keys_of g.notes.marks order) cells key kept.clock origin
          → ((earlier : ℕ) (one : Latest) → earlier < key → cell_at cells earlier ≡ Some one → (hops : List Taken)
          → IsWalkFrom g (start_angle g.start) (place_at order earlier) (one.clock - start_angle g.start)
          (counts_at g.notes.marks order earlier) hops
          → ComesFromStart g order earlier one.clock hops)
          → ComesFromStart g order key kept.clock more
      go None is further = from_start key kept.clock more is.0 is.1 walk
      go (Some origin) is further =
          let angle : ℕ = start_angle g.start in
          from_earlier origin kept.clock key more is.0 is.1
          (further origin.key is.0.kept is.1.later is.0.there
          (taken_of g order origin.key is.0.hop (is.0.kept.clock - angle) (kept.clock - angle) ∷ more)
          (hop_before origin kept.clock key more is.0 is.1 walk))

  -- A walk from what is kept at a key on continues one from the start.
  pub comes_from_start : (key : ℕ) (kept : Latest) → cell_at cells key ≡ Some kept → (more : List Taken)
      → IsWalkFrom g (start_angle g.start) (place_at order key) (kept.clock - start_angle g.start)
      (counts_at g.notes.marks order key) more
      → ComesFromStart g order key kept.clock more
  comes_from_start key kept there more walk = comes_below (key + 1) key kept (omega arith) there more walk
