-- The walk that is followed back from the latest of all that a finished scan keeps.
use Rattle.std.proofs.Common.{◌≡◌, ℕ, ◌+◌, ◌-◌, ◌<◌, ◌≤◌, List, ◌∷◌, ◌++◌, map, reverse, ap, sym, ◌∙◌, subst, []}
use Rattle.std.proofs.Common.{inl, inr, ◌⊎◌, Option, Some, None, arith}
use Rattle.std.proofs.lemmas.List.{reverse-append}
use Rattle.std.specs.Prelude.{slice_get, slice_index}
use Rattle.base_notes.specs.declared.notes.mark.Mark.{Mark}
use Rattle.machine_steps.specs.Counts.{no_counts}
use Rattle.machine_steps.specs.WaysLeft.{seen_way}
use Rattle.machine_steps.proofs.Returning.{none_to_keep}
use Rattle.flow_graph.specs.Hops.{Hop}
use Rattle.flow_graph.specs.Walk.{Setting, Taken, IsWalkFrom, IsWalk, edges_taken, passes_by, time_from, time_of}
use Rattle.flow_graph.proofs.LongestLaws.{longest_later}
use Rattle.flow_graph.specs.Longest.{longest}
use Rattle.flow_walks.specs.declared.visit.Visit.{Visit}
use Rattle.flow_walks.specs.Visited.{AreLongest, IsLongest, Visited, visited, passes_in, seen_visit, IsWalkOf}
use Rattle.bound_scan.specs.declared.latest.Latest.{Latest}
use Rattle.bound_scan.specs.declared.key_hop.KeyHop.{KeyHop}
use Rattle.bound_scan.specs.Keys.{keys_of, place_at, counts_at, IsOrdered}
use Rattle.bound_scan.specs.Scanned.{cell_at, IsKeyHop, IsEndOf, IsBackedBy, IsLastBy, Scanned}
use Rattle.bound_scan.specs.Table.{start_angle}
use Rattle.bound_scan.specs.AnalysisOf.{ArePasses}
use Rattle.bound_scan.specs.TakenOf.{taken_of}
use Rattle.bound_scan.proofs.Walked.{hop_before, hop_last, not_before}

-- These hops are a walk from what is kept at a key on, up to the latest of all.
pub record IsFollowed (g : Setting) (order : List ℕ) (cells : List (Option Latest)) (last end : Latest)
    (hops : List Taken) : Type 0 where
  pub key : ℕ
  pub there : cell_at cells key ≡ Some end
  pub walk : IsWalkFrom g (start_angle g.start) (place_at order key) (end.clock - start_angle g.start)
      (counts_at g.notes.marks order key) hops
  pub time : time_from (end.clock - start_angle g.start) hops ≡ last.clock - start_angle g.start

-- The visits, the last first, are those of the walk from an end on, which is the latest of all or kept at a key.
pub record IsTraced (g : Setting) (order : List ℕ) (cells : List (Option Latest)) (last end : Latest)
    (visits : List Visit) : Type 0 where
  pub hops : List Taken
  pub same : map visited hops ≡ map seen_visit (reverse visits)
  pub longest : AreLongest g (start_angle g.start) (map visited hops)
  pub from : ((end ≡ last) × (hops ≡ [])) ⊎ IsFollowed g order cells last end hops

-- one more than the key that an end comes from, if there is one
abbrev pub key_after : Option KeyHop → ℕ
key_after None = 0
key_after (Some origin) = origin.key + 1

-- one more visit, behind which the others come
visits_more : (hop : Taken) (hops : List Taken) (visits : List Visit) (visit : Visit)
    → map visited hops ≡ map seen_visit (reverse visits)
    → seen_visit visit ≡ visited hop → map visited (hop ∷ hops) ≡ map seen_visit (reverse (visits ++ visit ∷ []))
visits_more hop hops visits visit same is =
    ap (λ (others : List Visited). visited hop ∷ others) same
    ∙ ap (λ (first : Visited). first ∷ map seen_visit (reverse visits)) (sym is)
    ∙ sym (ap (map seen_visit) (reverse-append visits (visit ∷ [])))

-- The passes of marks, with one more visit before the others.
pub passes_more : (marks : List Mark) (visits : List Visit) (visit : Visit) (old new : List ℕ)
    → ArePasses marks (map seen_visit (reverse visits)) old
    → ((k : ℕ) (mark : Mark) → slice_get marks k ≡ Some mark
    → slice_index new k ≡ slice_index old k + passes_by mark visit.place.number (seen_way visit.way))
    → ArePasses marks (map seen_visit (reverse (visits ++ visit ∷ []))) new
passes_more marks visits visit old new so_far counted k mark at =
    subst (λ (walk : List Visit). slice_index new k ≡ passes_in mark (map seen_visit walk))
    (sym (reverse-append visits (visit ∷ [])))
    (counted k mark at ∙ ap (λ (n : ℕ). n + passes_by mark visit.place.number (seen_way visit.way)) (so_far k mark at)
    ∙ omega arith)

module _ (g : Setting) (order : List ℕ) (cells : List (Option Latest)) (last : Latest)
    (ordered : IsOrdered g.loads g.notes g.start order) (starts : g.start < 2000)
    (s : Scanned g order (keys_of g.notes.marks order) (keys_of g.notes.marks order) cells last) where
  -- what an end comes from
  end_of : (end : Latest) (hops : List Taken) → ((end ≡ last) × (hops ≡ [])) ⊎ IsFollowed g order cells last end hops
      → (origin : KeyHop) → end.origin ≡ Some origin
      → IsEndOf g order (keys_of g.notes.marks order) cells origin end.clock
  end_of end hops (inl is) origin from =
      let is_last : IsLastBy g order (keys_of g.notes.marks order) cells end.clock end.origin =
      subst (λ (one : Latest). IsLastBy g order (keys_of g.notes.marks order) cells one.clock one.origin) (sym is.0)
      s.ends in
      (subst (IsLastBy g order (keys_of g.notes.marks order) cells end.clock) from is_last).0
  end_of end hops (inr is) origin from =
      (subst (IsBackedBy g order (keys_of g.notes.marks order) cells is.key end.clock) from
      (s.backed is.key end is.there)).0

  -- something is kept there
  pub origin_kept : (end : Latest) (visits : List Visit) (origin : KeyHop) → IsTraced g order cells last end visits
      → end.origin ≡ Some origin
      → IsEndOf g order (keys_of g.notes.marks order) cells origin end.clock
  origin_kept end visits origin t from = end_of end t.hops t.from origin from

  -- what is kept there is one
  same_kept : (key : ℕ) (a b : Latest) → cell_at cells key ≡ Some a → cell_at cells key ≡ Some b → a ≡ b
  same_kept key a b here there = go (sym here ∙ there)
    where
      go : Some a ≡ Some b → a ≡ b
      go e = cc

  -- and no later than the end
  pub begins_before : (end : Latest) (visits : List Visit) (origin : KeyHop) (begin : Latest)
      → IsTraced g order cells last end visits → end.origin ≡ Some origin
      → cell_at cells origin.key ≡ Some begin → begin.clock ≤ end.clock
  begins_before end visits origin begin t from there =
      let e = origin_kept end visits origin t from in
      omega (
        arith,
        e.end,
        longest_later g.times (place_at order origin.key) e.hop.ins e.hop.way e.kept.clock,
        ap (λ (kept : Latest). kept.clock) (same_kept origin.key e.kept begin e.there there),
      )

  -- the hops with one more before them, which the end is of
  followed_more : (end begin : Latest) (hops : List Taken) (origin : KeyHop) → ((end ≡ last) × (hops ≡ []))
      ⊎ IsFollowed g order cells last end hops
      → end.origin ≡ Some origin → cell_at cells origin.key ≡ Some begin
      → (hop : Hop) × IsKeyHop g order origin hop
      × IsFollowed g order cells last begin
      (taken_of g order origin.key hop (begin.clock - start_angle g.start) (end.clock - start_angle g.start) ∷ hops)
  followed_more end begin hops origin (inl is) from there =
      let angle : ℕ = start_angle g.start in
      let is_last : IsLastBy g order (keys_of g.notes.marks order) cells end.clock end.origin =
      subst (λ (one : Latest). IsLastBy g order (keys_of g.notes.marks order) cells one.clock one.origin) (sym is.0)
      s.ends in
      let by : IsLastBy g order (keys_of g.notes.marks order) cells end.clock (Some origin) =
      subst (IsLastBy g order (keys_of g.notes.marks order) cells end.clock) from is_last in
      let hop : Hop = by.0.hop in
      let one : IsWalkFrom g angle (place_at order origin.key) (begin.clock - angle)
      (counts_at g.notes.marks order origin.key)
      (taken_of g order origin.key hop (begin.clock - angle) (end.clock - angle) ∷ []) =
      subst (λ (kept : Latest).
      IsWalkFrom g angle (place_at order origin.key) (kept.clock - angle) (counts_at g.notes.marks order origin.key)
      (taken_of g order origin.key hop (kept.clock - angle) (end.clock - angle) ∷ []))
      (same_kept origin.key by.0.kept begin by.0.there there)
      (hop_last g order cells last ordered starts s origin end.clock by.0 by.1) in (
        hop,
        by.0.is,
        record {
          key = origin.key;
          there = there;
          walk = subst (λ (more : List Taken).
              IsWalkFrom g angle (place_at order origin.key) (begin.clock - angle)
              (counts_at g.notes.marks order origin.key)
              (taken_of g order origin.key hop (begin.clock - angle) (end.clock - angle) ∷ more)) (sym is.1) one;
          time = ap (time_from (end.clock - angle)) is.1 ∙ ap (λ (one : Latest). one.clock - angle) is.0;
        },
      )
  followed_more end begin hops origin (inr is) from there =
      let angle : ℕ = start_angle g.start in
      let by : IsBackedBy g order (keys_of g.notes.marks order) cells is.key end.clock (Some origin) =
      subst (IsBackedBy g order (keys_of g.notes.marks order) cells is.key end.clock) from
      (s.backed is.key end is.there) in
      let hop : Hop = by.0.hop in (
        hop,
        by.0.is,
        record {
          key = origin.key;
          there = there;
          walk = subst (λ (kept : Latest).
              IsWalkFrom g angle (place_at order origin.key) (kept.clock - angle)
              (counts_at g.notes.marks order origin.key)
              (taken_of g order origin.key hop (kept.clock - angle) (end.clock - angle) ∷ hops))
              (same_kept origin.key by.0.kept begin by.0.there there)
              (hop_before g order cells last ordered starts s origin end.clock is.key hops by.0 by.1 is.walk);
          time = is.time;
        },
      )

  -- It takes as long as it can.
  longest_more : (end begin : Latest) (visits : List Visit) (origin : KeyHop) (hop : Hop)
      → IsTraced g order cells last end visits → end.origin ≡ Some origin → cell_at cells origin.key ≡ Some begin
      → IsKeyHop g order origin hop
      → IsLongest g (start_angle g.start) (visited (taken_of g order origin.key hop (begin.clock - start_angle g.start)
      (end.clock - start_angle g.start)))
  longest_more end begin visits origin hop t from there is =
      let angle : ℕ = start_angle g.start in
      let place : ℕ = place_at order origin.key in
      let e = origin_kept end visits origin t from in
      let after : angle ≤ begin.clock = not_before g order cells last ordered starts s origin.key begin there in
      let later : begin.clock ≤ end.clock = begins_before end visits origin begin t from there in
      let back : angle + (end.clock - angle) ≡ end.clock = omega (arith, after, later) in
      let begun : angle + (begin.clock - angle) ≡ begin.clock = omega (arith, after) in
      back ∙ e.end
      ∙ ap (λ (one : Hop). longest g.times place one.ins one.way e.kept.clock) (same_hop e.hop hop (sym e.is ∙ is))
      ∙ ap (λ (kept : Latest). longest g.times place hop.ins hop.way kept.clock)
      (same_kept origin.key e.kept begin e.there there)
      ∙ ap (longest g.times place hop.ins hop.way) (sym begun)
    where
      same_hop : (a b : Hop) → Some a ≡ Some b → a ≡ b
      same_hop a b same = cc

  -- One more hop is followed back.
  pub trace_more : (end begin : Latest) (visits : List Visit) (origin : KeyHop) (visit : Visit)
      → IsTraced g order cells last end visits
      → end.origin ≡ Some origin → cell_at cells origin.key ≡ Some begin
      → ((hop : Hop) → IsKeyHop g order origin hop
      → seen_visit visit ≡ visited
      (taken_of g order origin.key hop (begin.clock - start_angle g.start) (end.clock - start_angle g.start)))
      → IsTraced g order cells last begin (visits ++ visit ∷ [])
  trace_more end begin visits origin visit t from there is =
      let more = followed_more end begin t.hops origin t.from from there in
      let hop : Taken = taken_of g order origin.key more.0 (begin.clock - start_angle g.start)
      (end.clock - start_angle g.start) in
      record {
        hops = hop ∷ t.hops;
        same = visits_more hop t.hops visits visit t.same (is more.0 more.1);
        longest = (longest_more end begin visits origin more.0 t from there more.1, t.longest);
        from = inr more.2;
      }

  -- What is kept at a key comes from an earlier one.
  pub falls : (origin : KeyHop) (begin : Latest) → cell_at cells origin.key ≡ Some begin
      → key_after begin.origin < origin.key + 1
  falls origin begin there = go begin.origin (s.backed origin.key begin there)
    where
      go : (from : Option KeyHop) → IsBackedBy g order (keys_of g.notes.marks order) cells origin.key begin.clock from
          → key_after from < origin.key + 1
      go None is = omega arith
      go (Some earlier) is = omega (arith, is.1.later)

  -- hops from an end that comes from nowhere are a walk
  whole : (end : Latest) (hops : List Taken) → ((end ≡ last) × (hops ≡ [])) ⊎ IsFollowed g order cells last end hops
      → end.origin ≡ None
      → IsWalk g (start_angle g.start) hops × (time_of hops ≡ last.clock - start_angle g.start)
  whole end hops (inl is) from =
      let is_last : IsLastBy g order (keys_of g.notes.marks order) cells end.clock end.origin =
      subst (λ (one : Latest). IsLastBy g order (keys_of g.notes.marks order) cells one.clock one.origin) (sym is.0)
      s.ends in
      let now : end.clock ≡ start_angle g.start =
      subst (IsLastBy g order (keys_of g.notes.marks order) cells end.clock) from is_last in (
        record {
          on_drum = omega arith;
          from_start = subst (IsWalkFrom g (start_angle g.start) g.start 0 (no_counts g.notes.marks)) (sym is.1) tt;
          back = none_to_keep g.notes.calls _ (edges_taken hops) ordered.plain;
        },
        ap time_of is.1 ∙ omega (arith, now, ap (λ (one : Latest). one.clock) is.0),
      )
  whole end hops (inr is) from =
      let angle : ℕ = start_angle g.start in
      let at : IsBackedBy g order (keys_of g.notes.marks order) cells is.key end.clock None =
      subst (IsBackedBy g order (keys_of g.notes.marks order) cells is.key end.clock) from
      (s.backed is.key end is.there) in
      let nothing : end.clock - angle ≡ 0 = omega (arith, at.1) in
      let at_start = subst
      (λ (place : ℕ). IsWalkFrom g angle place (end.clock - angle) (counts_at g.notes.marks order is.key) hops)
      at.0.at is.walk in
      let unpassed = subst (λ (counts : List ℕ). IsWalkFrom g angle g.start (end.clock - angle) counts hops) at.0.passed
      at_start in (
        record {
          on_drum = omega arith;
          from_start =
              subst (λ (time : ℕ). IsWalkFrom g angle g.start time (no_counts g.notes.marks) hops) nothing unpassed;
          back = none_to_keep g.notes.calls _ (edges_taken hops) ordered.plain;
        },
        ap (λ (time : ℕ). time_from time hops) (sym nothing) ∙ is.time,
      )

  -- Followed back to the start, it is a walk.
  pub trace_whole : (end : Latest) (visits : List Visit) → IsTraced g order cells last end visits → end.origin ≡ None
      → IsWalkOf g (start_angle g.start) (last.clock - start_angle g.start) (map seen_visit (reverse visits))
  trace_whole end visits t from =
      let walk = whole end t.hops t.from from in
      record { hops = t.hops; walk = walk.0; time = walk.1; same = t.same }
