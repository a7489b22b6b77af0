-- No walk passes what a finished scan keeps, nor the latest of all.
use Rattle.std.proofs.Common.{◌≡◌, ℕ, zero, suc, ◌+◌, ◌*◌, ◌<◌, ◌≤◌, List, ◌∷◌, ap, sym, ◌∙◌, subst, Option, Some, []}
use Rattle.std.proofs.Common.{arith}
use Rattle.std.specs.Prelude.{Contains}
use Rattle.base_words.specs.declared.instruction.Instruction.{Instruction}
use Rattle.base_words.specs.declared.op.Op.{Op}
use Rattle.machine_rotation.specs.Available.{is_available}
use Rattle.machine_rotation.specs.Moment.{first}
use Rattle.base_notes.specs.declared.entry.Entry.{Entry}
use Rattle.machine_steps.specs.Counts.{after_pass, no_counts, AreWithin}
use Rattle.machine_steps.specs.Ways.{Way, early, to, late}
use Rattle.flow_graph.specs.Hops.{Hop, hops}
use Rattle.flow_graph.specs.Walk.{Setting, Taken, IsHopAt, FollowHop, IsWalkFrom, IsWalk, time_from, time_of}
use Rattle.bound_scan.specs.declared.latest.Latest.{Latest}
use Rattle.bound_scan.specs.Keys.{keys_of, place_at, counts_at, IsKey, IsOrdered}
use Rattle.flow_graph.specs.Longest.{longest}
use Rattle.flow_graph.proofs.LongestLaws.{longest_monotone, longest_periodic, no_later, longest_from_found, first_fetch}
use Rattle.flow_graph.proofs.LongestLaws.{first_fetch_behind}
use Rattle.flow_graph.proofs.Profiles.{hop_may_end}
use Rattle.bound_scan.specs.Scanned.{cell_at, end_from, Arrives, IsTakenBy, Scanned}
use Rattle.bound_scan.specs.Table.{start_angle, GoesOn, Arrive}

-- A search that begins k revolutions later ends k revolutions later.
pub longest_revolutions : (times : Op → Entry) (place : ℕ) (ins : Instruction) (way : Way) (t k : ℕ)
    → longest times place ins way (t + 50 * k) ≡ longest times place ins way t + 50 * k
longest_revolutions times place ins way t zero =
    let same : t + 50 * 0 ≡ t = omega arith in
    omega (arith, ap (longest times place ins way) same)
longest_revolutions times place ins way t (suc k) =
    let same : t + 50 * suc k ≡ t + 50 * k + 50 = omega arith in
    omega (
      arith,
      ap (longest times place ins way) same,
      longest_periodic times place ins way (t + 50 * k),
      longest_revolutions times place ins way t k,
    )

-- the hop of a walk, without its times
abbrev pub hop_of : Taken → Hop
hop_of hop = record { ins = hop.ins; way = hop.way }

module _ (g : Setting) (order : List ℕ) (cells : List (Option Latest)) (last : Latest)
    (ordered : IsOrdered g.loads g.notes g.start order) (starts : g.start < 2000)
    (s : Scanned g order (keys_of g.notes.marks order) (keys_of g.notes.marks order) cells last) where
  -- Hops from a place, a time and counts on, from this angle, end k revolutions or more before the
  -- latest of all, and arrive k revolutions or more before what is kept where they arrive.
  pub record IsUnpassed (angle k place time : ℕ) (counts : List ℕ) (hops : List Taken) : Type 0 where
    pub below : angle + time_from time hops + 50 * k ≤ last.clock
    pub arrivals : (place' time' : ℕ) (counts' : List ℕ) → Arrive g place time counts hops place' time' counts'
        → Arrives g.notes.marks order cells place' counts' (angle + time' + 50 * k)

  -- no hops
  unpassed_none : (angle k time key : ℕ) (kept : Latest) → key < keys_of g.notes.marks order
      → cell_at cells key ≡ Some kept
      → angle + time + 50 * k ≤ kept.clock
      → IsUnpassed angle k (place_at order key) time (counts_at g.notes.marks order key) []
  unpassed_none angle k time key kept inside there before = record {
    below = omega (arith, before, s.below key kept there);
    arrivals = λ place' time' counts' arrives. record {
      key = key;
      is = record { below = inside; at = arrives.0; passed = arrives.2 };
      kept = kept;
      there = there;
      after = omega (arith, before, arrives.1);
    };
  }

  -- a hop that begins k revolutions or more before a clock ends as many before the latest end from
  -- there
  end_before : (angle k time key clock : ℕ) (hop : Taken) → IsHopAt g angle (place_at order key) time hop
      → angle + time + 50 * k ≤ clock → angle + hop.ended + 50 * k ≤ end_from g order key (hop_of hop) clock
  end_before angle k time key clock hop is before =
      let end : ℕ → ℕ → ℕ = λ place from. longest g.times place hop.ins hop.way from in
      let ends : angle + hop.ended ≤ end hop.place (angle + hop.begun) = no_later g.times angle hop is.timed in
      let here : end hop.place (angle + hop.begun) ≡ end (place_at order key) (angle + time) =
      ap (λ (place : ℕ). end place (angle + hop.begun)) is.here
      ∙ ap (λ (begun : ℕ). end (place_at order key) (angle + begun)) is.begins in
      omega (
        arith,
        ends,
        here,
        longest_revolutions g.times (place_at order key) hop.ins hop.way (angle + time) k,
        longest_monotone g.times (place_at order key) hop.ins hop.way (angle + time + 50 * k) clock before,
      )

  -- what is so at a key's location and counts
  at_key : (P : ℕ → List ℕ → Type 0) (key place : ℕ) (counts : List ℕ) → IsKey g.notes.marks order key place counts
      → P (place_at order key) (counts_at g.notes.marks order key) → P place counts
  at_key P key place counts is holds =
      subst (P place) is.passed (subst (λ (at : ℕ). P at (counts_at g.notes.marks order key)) is.at holds)

  -- the hops that follow a hop, from where it leads to
  abbrev FollowFrom : ℕ → ℕ → Taken → Way → List Taken → Type 0
  FollowFrom angle key hop way more =
      FollowHop way (λ next.
      let passed = after_pass g.notes.marks (place_at order key) next (counts_at g.notes.marks order key) in
      AreWithin g.notes.marks passed × IsWalkFrom g angle next hop.ended passed more) more

  -- hops from each key at which what is kept is k revolutions or more later are unpassed
  abbrev AreUnpassedFrom : ℕ → ℕ → ℕ → List Taken → Type 0
  AreUnpassedFrom angle k time more =
      (key : ℕ) (kept : Latest) → key < keys_of g.notes.marks order → cell_at cells key ≡ Some kept
      → angle + time + 50 * k ≤ kept.clock
      → IsWalkFrom g angle (place_at order key) time (counts_at g.notes.marks order key) more
      → IsUnpassed angle k (place_at order key) time (counts_at g.notes.marks order key) more

  -- a hop that ends k revolutions or more before the latest end from what is kept at its key, where
  -- those behind it are unpassed
  unpassed_on : (angle k time key : ℕ) (kept : Latest) (hop : Taken) (more : List Taken)
      → key < keys_of g.notes.marks order → cell_at cells key ≡ Some kept
      → Contains (hops g.loads g.notes (place_at order key)) (hop_of hop)
      → angle + hop.ended + 50 * k ≤ end_from g order key (hop_of hop) kept.clock
      → FollowFrom angle key hop hop.way more → AreUnpassedFrom angle k hop.ended more
      → IsUnpassed angle k (place_at order key) time (counts_at g.notes.marks order key) (hop ∷ more)
  unpassed_on angle k time key kept hop more inside there has before follow further =
      let parts = go hop.way (s.took key kept (hop_of hop) inside there has) follow in
      record { below = parts.0; arrivals = parts.1 }
    where
      go : (way : Way) → IsTakenBy g order cells last.clock key (end_from g order key (hop_of hop) kept.clock) way
          → FollowFrom angle key hop way more
          → (angle + time_from hop.ended more + 50 * k ≤ last.clock)
          × ((place' time' : ℕ) (counts' : List ℕ)
          → GoesOn way (λ next.
          Arrive g next hop.ended
          (after_pass g.notes.marks (place_at order key) next (counts_at g.notes.marks order key)) more place' time'
          counts')
          → Arrives g.notes.marks order cells place' counts' (angle + time' + 50 * k))
      go early taken none =
          (omega (arith, taken, before, ap (time_from hop.ended) none), λ place' time' counts' goes. absurd goes)
      go (to next) taken on =
          let passed : List ℕ =
          after_pass g.notes.marks (place_at order key) next (counts_at g.notes.marks order key) in
          let came : Arrives g.notes.marks order cells next passed (end_from g order key (hop_of hop) kept.clock) =
          (taken on.0).1 in
          let late_enough : angle + hop.ended + 50 * k ≤ came.kept.clock = omega (arith, before, came.after) in
          let rest : IsUnpassed angle k next hop.ended passed more =
          at_key (λ place counts. IsWalkFrom g angle place hop.ended counts more
          → IsUnpassed angle k place hop.ended counts more) came.key next passed came.is
          (further came.key came.kept came.is.below came.there late_enough) on.1 in
          (rest.below, rest.arrivals)
      go late taken none =
          (omega (arith, taken, before, ap (time_from hop.ended) none), λ place' time' counts' goes. absurd goes)

  unpassed_behind : (angle k time key : ℕ) (kept : Latest) (hop : Taken) (more : List Taken)
      → key < keys_of g.notes.marks order → cell_at cells key ≡ Some kept
      → Contains (hops g.loads g.notes (place_at order key)) (hop_of hop)
      → angle + hop.ended + 50 * k ≤ end_from g order key (hop_of hop) kept.clock
      → FollowFrom angle key hop hop.way more
      → IsUnpassed angle k (place_at order key) time (counts_at g.notes.marks order key) (hop ∷ more)
  unpassed_behind angle k time key kept hop [] inside there has before follow =
      unpassed_on angle k time key kept hop [] inside there has before follow
      (λ key' kept' inside' there' before' walk. unpassed_none angle k hop.ended key' kept' inside' there' before')
  unpassed_behind angle k time key kept hop (next ∷ more) inside there has before follow =
      unpassed_on angle k time key kept hop (next ∷ more) inside there has before follow
      (λ key' kept' inside' there' before' walk.
      unpassed_behind angle k hop.ended key' kept' next more inside' there' walk.0.allowed
      (end_before angle k hop.ended key' kept'.clock next walk.0 before') walk.1)

  -- The first hop of a walk ends k revolutions or more before the latest end from what is kept for
  -- the start.
  first_before : (angle k : ℕ) (hop : Taken) → first (is_available g.start) angle + 50 * k ≡ start_angle g.start + 49
      → IsHopAt g angle g.start 0 hop
      → angle + hop.ended + 50 * k ≤ end_from g order s.begins.key (hop_of hop) s.begins.kept.clock
  first_before angle k hop fetched is =
      let end : ℕ → ℕ → ℕ = λ place from. longest g.times place hop.ins hop.way from in
      let may = hop_may_end g.loads g.notes g.start hop.ins hop.way is.allowed in
      let ends : angle + hop.ended ≤ end hop.place (angle + hop.begun) = no_later g.times angle hop is.timed in
      let from : angle + hop.begun ≡ angle = omega (arith, is.begins) in
      let here : end hop.place (angle + hop.begun) ≡ end g.start angle =
      ap (λ (place : ℕ). end place (angle + hop.begun)) is.here ∙ ap (λ (begun : ℕ). end g.start begun) from in
      let found : end g.start (first (is_available g.start) angle) ≡ end g.start angle =
      longest_from_found g.times g.start hop.ins hop.way angle may.0 may.1 in
      let behind : first (is_available g.start) angle + 50 * k ≡ first (is_available g.start) (start_angle g.start) =
      fetched ∙ sym (first_fetch_behind g.start starts) in
      let later : end g.start (first (is_available g.start) angle + 50 * k) ≡ end g.start (start_angle g.start) =
      ap (end g.start) behind ∙ longest_from_found g.times g.start hop.ins hop.way (start_angle g.start) may.0 may.1 in
      let kept : end g.start (start_angle g.start) ≤ end g.start s.begins.kept.clock =
      longest_monotone g.times g.start hop.ins hop.way (start_angle g.start) s.begins.kept.clock s.begins.after in
      let at : end (place_at order s.begins.key) s.begins.kept.clock ≡ end g.start s.begins.kept.clock =
      ap (λ (place : ℕ). end place s.begins.kept.clock) s.begins.is.at in
      omega (
        arith,
        ends,
        here,
        found,
        later,
        kept,
        at,
        longest_revolutions g.times g.start hop.ins hop.way
            (first (is_available g.start) angle) k,
      )

  -- a walk with a hop, from any angle
  unpassed_walk : (angle k : ℕ) (hop : Taken) (more : List Taken)
      → first (is_available g.start) angle + 50 * k ≡ start_angle g.start + 49
      → IsWalkFrom g angle g.start 0 (no_counts g.notes.marks) (hop ∷ more)
      → IsUnpassed angle k g.start 0 (no_counts g.notes.marks) (hop ∷ more)
  unpassed_walk angle k hop more fetched walk =
      let before = first_before angle k hop fetched walk.0 in
      at_key (λ place counts. IsWalkFrom g angle place 0 counts (hop ∷ more)
      → IsUnpassed angle k place 0 counts (hop ∷ more)) s.begins.key g.start (no_counts g.notes.marks) s.begins.is
      (λ from. unpassed_behind angle k 0 s.begins.key s.begins.kept hop more s.begins.is.below s.begins.there
      from.0.allowed before from.1) walk

  -- No walk, from whatever angle, ends later than the latest of all, where it begins at the angle behind the start's.
  pub no_walk_passes : (angle : ℕ) (hops : List Taken) → IsWalk g angle hops
      → start_angle g.start + time_of hops ≤ last.clock
  no_walk_passes angle [] walk = omega (arith, s.begins.after, s.below s.begins.key s.begins.kept s.begins.there)
  no_walk_passes angle (hop ∷ more) walk =
      let fetch = first_fetch g.start angle starts walk.on_drum in
      omega (arith, fetch.1, fetch.2, (unpassed_walk angle fetch.0 hop more fetch.1 walk.from_start).below)

  -- Where it arrives, something is kept that is no earlier.
  pub no_later_arrival : (angle : ℕ) (hops : List Taken) (place time : ℕ) (counts : List ℕ) → IsWalk g angle hops
      → Arrive g g.start 0 (no_counts g.notes.marks) hops place time counts
      → Arrives g.notes.marks order cells place counts (start_angle g.start + time)
  no_later_arrival angle [] place time counts walk arrives = record {
    key = s.begins.key;
    is = record { below = s.begins.is.below; at = s.begins.is.at ∙ arrives.0; passed = s.begins.is.passed ∙ arrives.2 };
    kept = s.begins.kept;
    there = s.begins.there;
    after = omega (arith, arrives.1, s.begins.after);
  }
  no_later_arrival angle (hop ∷ more) place time counts walk arrives =
      let fetch = first_fetch g.start angle starts walk.on_drum in
      let came = (unpassed_walk angle fetch.0 hop more fetch.1 walk.from_start).arrivals place time counts arrives in
      record {
        key = came.key;
        is = came.is;
        kept = came.kept;
        there = came.there;
        after =
            omega (arith, came.after, fetch.1, fetch.2);
      }
