-- That rows of all kinds of a walk, sorted, are its waits.
use Rattle.std.proofs.Common.{◌≡◌, ℕ, zero, suc, ◌+◌, ◌<◌, ◌≤◌, ◌⊎◌, inl, inr, Bool, true, false, cond, List, [], ◌∷◌, ◌++◌}
use Rattle.std.proofs.Common.{map, refl, ap, sym, ◌∙◌, subst, arith, Some, filter}
use Rattle.std.proofs.lemmas.List.Sums.{sum_by-cons}
use Rattle.std.proofs.lemmas.Map.Entries.{hash_map_get_place, place_from_lookup}
use Rattle.std.proofs.lemmas.Option.{slice_get-map}
use Rattle.std.proofs.Math.Logic.{∥∥₁_elim}
use Rattle.std.proofs.Props.{props}
use Rattle.std.specs.Map.{values_of}
use Rattle.std.specs.Prelude.{Contains, option_map, slice_get, sum_by}
use Rattle.indexmap.specs.IndexMap.{IndexMap, get}
use Rattle.base_words.specs.declared.op.Op.{Op}
use Rattle.base_notes.specs.declared.entry.Entry.{Entry}
use Rattle.base_graphs.proofs.Lists.{contains_at, contains_cases, contains_from_get, contains_here, contains_map, contains_none, contains_there}
use Rattle.flow_walks.specs.declared.visit.Visit.{Visit}
use Rattle.flow_walks.specs.Visited.{AreInTime, Visited, seen_visit}
use Rattle.print_hops.specs.declared.kind.Kind.{Kind}
use Rattle.print_hops.specs.declared.sums.Sums.{Sums}
use Rattle.print_hops.specs.Waits.{AreDearestFirst, ComesBefore, IsFirst, alike, is_alike, time_alike, time_of}
use Rattle.print_hops.specs.KindsOf.{kind_of, same_kind, sums_of, waited_of}
use Rattle.print_hops.proofs.KindRows.{entry_of, key_at, one_place, AreDearest}
use Rattle.print_hops.proofs.SameKinds.{same_kind_equiv}
use Rattle.print_walks.specs.declared.waits.Waits.{Waits}
use Rattle.print_walks.specs.declared.waits.wait.Wait.{Wait}
use Rattle.print_walks.specs.KindRows.{AreRows}
use Rattle.print_walks.specs.WaitsOf.{AreWaits, IsSumOf, first_of, of_kind, row_of}
use Rattle.print_walks.proofs.WaitRows.{of_same, part_le}

-- ---- lists

-- what a list's members are seen as
seen_member : (walk : List Visit) (hop : Visited) → Contains (map seen_visit walk) hop
    → (visit : Visit) × Contains walk visit × (seen_visit visit ≡ hop)
seen_member [] hop has = absurd (contains_none hop has)
seen_member (one ∷ walk) hop has = elim (contains_cases (seen_visit one) hop (map seen_visit walk) has) [
  | inl same ↦ (one, contains_here one walk, same)
  | inr behind ↦
      let rest = seen_member walk hop behind in (rest.0, contains_there one rest.0 walk rest.1, rest.2)
]

-- what passes a test, seen
filter_seen : (is : Visited → Bool) (walk : List Visit)
    → filter is (map seen_visit walk) ≡ map seen_visit (filter (λ v. is (seen_visit v)) walk)
filter_seen is [] = refl
filter_seen is (one ∷ walk) = go (is (seen_visit one)) (filter_seen is walk)
  where
    go : (b : Bool)
        → filter is (map seen_visit walk) ≡ map seen_visit (filter (λ v. is (seen_visit v)) walk)
        → cond b (seen_visit one ∷ filter is (map seen_visit walk)) (filter is (map seen_visit walk))
        ≡ map seen_visit (cond b (one ∷ filter (λ v. is (seen_visit v)) walk)
        (filter (λ v. is (seen_visit v)) walk))
    go true rest = ap (λ (hops : List Visited). seen_visit one ∷ hops) rest
    go false rest = rest

map_seen-append : (before : List Visit) (one : Visit) (after : List Visit)
    → map seen_visit (before ++ one ∷ after)
    ≡ map seen_visit before ++ seen_visit one ∷ map seen_visit after
map_seen-append [] one after = refl
map_seen-append (visit ∷ before) one after =
    ap (λ (hops : List Visited). seen_visit visit ∷ hops) (map_seen-append before one after)

-- the first of what passes a test: it passes, and none before it does
record IsHead (is : Visit → Bool) (walk : List Visit) (one : Visit) : Type 0 where
  pub before : List Visit
  pub after : List Visit
  pub split : walk ≡ before ++ one ∷ after
  pub passes : is one ≡ true
  pub none : (visit : Visit) → Contains before visit → is visit ≡ false

head_of : (is : Visit → Bool) (walk : List Visit) (one : Visit) (others : List Visit)
    → filter is walk ≡ one ∷ others → IsHead is walk one
head_of is [] one others found = cc
head_of is (visit ∷ walk) one others found = go (is visit) refl (head_of is walk one others) found
  where
    go : (b : Bool) → is visit ≡ b → (filter is walk ≡ one ∷ others → IsHead is walk one)
        → cond b (visit ∷ filter is walk) (filter is walk) ≡ one ∷ others
        → IsHead is (visit ∷ walk) one
    go true so further all =
        let same : visit ≡ one = cc in
        record {
          before = [];
          after = walk;
          split = ap (λ (v : Visit). v ∷ walk) same;
          passes = sym (ap is same) ∙ so;
          none = λ other has. absurd (contains_none other has);
        }
    go false so further all =
        let rest = further all in
        record {
          before = visit ∷ rest.before;
          after = rest.after;
          split = ap (λ (xs : List Visit). visit ∷ xs) rest.split;
          passes = rest.passes;
          none = λ other has.
              elim (contains_cases visit other rest.before has) [
                | inl same ↦ sym (ap is same) ∙ so
                | inr behind ↦ rest.none other behind
              ];
        }

-- what passes isn't nothing
some_pass : (is : Visit → Bool) (walk : List Visit) (visit : Visit) → Contains walk visit
    → is visit ≡ true → filter is walk ≡ [] → ⊥
some_pass is [] visit has so none = contains_none visit has
some_pass is (one ∷ walk) visit has so none =
    go (is one) refl (λ behind. some_pass is walk visit behind so) none
  where
    go : (b : Bool) → is one ≡ b → (Contains walk visit → filter is walk ≡ [] → ⊥)
        → cond b (one ∷ filter is walk) (filter is walk) ≡ [] → ⊥
    go true here further all = cc
    go false here further all = elim (contains_cases one visit walk has) [
      | inl same ↦ clash (sym here ∙ ap is same ∙ so)
      | inr behind ↦ further behind all
    ]
      where
        clash : false ≡ true → ⊥
        clash e = cc

-- ---- a row of a kind's hops

-- It sums up the hops of its kind, of which its first is the first.
record IsRowOf (times : Op → Entry) (angle : ℕ) (walk : List Visit) (kind : Kind) (row : Wait) : Type 0
  where
    pub head : IsHead (λ visit. same_kind kind (kind_of visit)) walk row.first
    pub sums : row.sums ≡ sums_of times angle (map seen_visit (of_kind kind walk))

row_is : (times : Op → Entry) (angle : ℕ) (walk : List Visit) (kind : Kind) (row : Wait)
    → row_of times angle (of_kind kind walk) ≡ Some row → IsRowOf times angle walk kind row
row_is times angle walk kind row = go (of_kind kind walk) refl
  where
    is : Visit → Bool
    is visit = same_kind kind (kind_of visit)

    go : (hops : List Visit) → of_kind kind walk ≡ hops → row_of times angle hops ≡ Some row
        → IsRowOf times angle walk kind row
    go [] at found = cc
    go (one ∷ others) at found =
        let all : List Visited = map seen_visit (one ∷ others) in
        let summed : Wait = record { first = one; sums = sums_of times angle all } in
        let same : summed ≡ row = cc in
        record {
          head = subst (λ (visit : Visit). IsHead (λ v. same_kind kind (kind_of v)) walk visit)
              (ap (λ (w : Wait). w.first) same) (head_of (λ v. same_kind kind (kind_of v)) walk one others at);
          sums = sym (ap (λ (w : Wait). w.sums) same)
              ∙ ap (λ (hops : List Visit). sums_of times angle (map seen_visit hops)) (sym at);
        }

-- the hops that are alike to its first are those of the kind
alike_of : (walk : List Visit) (kind : Kind) (row : Wait) → same_kind kind (kind_of row.first) ≡ true
    → map seen_visit (of_kind kind walk) ≡ alike (first_of row) (map seen_visit walk)
alike_of walk kind row so =
    ap (map seen_visit) (of_same kind (kind_of row.first) walk so)
    ∙ sym (filter_seen (is_alike (first_of row)) walk)

module _ (times : Op → Entry) (angle : ℕ) (walk : List Visit) (kind : Kind) (row : Wait)
    (is : IsRowOf times angle walk kind row) where
  sums_up : IsSumOf times angle (map seen_visit walk) row
  sums_up = is.sums ∙ ap (sums_of times angle) (alike_of walk kind row is.head.passes)

  is_first : IsFirst (map seen_visit walk) (first_of row)
  is_first = (
    map seen_visit is.head.before,
    map seen_visit is.head.after,
    ap (map seen_visit) is.head.split ∙ map_seen-append is.head.before row.first is.head.after,
    λ hop has.
        let member = seen_member is.head.before hop has in
        ap (is_alike (first_of row)) (sym member.2)
        ∙ sym (same_kind_equiv.congr kind (kind_of row.first) (kind_of member.0) is.head.passes)
        ∙ is.head.none member.0 member.1,
  )

-- ---- the rows of all kinds

-- what a row is sorted by
abbrev pub time_in : Wait → ℕ
time_in row = row.sums.time

abbrev pub begun_in : Wait → ℕ
begun_in row = row.first.begun

-- a row whose first hop this is
row_at : (rows : List Wait) (i : ℕ) (hop : Visited) → slice_get (map first_of rows) i ≡ Some hop
    → (row : Wait) × (slice_get rows i ≡ Some row) × (first_of row ≡ hop)
row_at [] i hop at = absurd (cc)
row_at (row ∷ rows) zero hop at =
    let same : first_of row ≡ hop = cc in
    (row, refl, same)
row_at (row ∷ rows) (suc i) hop at = row_at rows i hop at

module _ {S : Type 0} (times : Op → Entry) (angle : ℕ) (walk : List Visit) (rows : IndexMap Kind Wait S)
    (are : AreRows times angle walk rows) where
  entry_is : (i : ℕ) (row : Wait) → slice_get (values_of rows.entries) i ≡ Some row
      → (key : Kind) × (slice_get rows.entries i ≡ Some (key, row)) × IsRowOf times angle walk key row
  entry_is i row at =
      let entry = entry_of rows.entries i row at in (
        entry.0,
        entry.1,
        row_is times angle walk entry.0 row
            (sym (are.found entry.0)
            ∙ hash_map_get_place same_kind_equiv rows i entry.0 row are.apart entry.1),
      )

  sum_of : (row : Wait) → Contains (values_of rows.entries) row
      → IsSumOf times angle (map seen_visit walk) row
  sum_of row has =
      let at = contains_at (values_of rows.entries) row has in
      let entry = entry_is at.0 row at.1 in
      sums_up times angle walk entry.0 row entry.2

  -- a hop's kind has its row
  has_row : (visit : Visit) → Contains walk visit
      → (row : Wait) × Contains (values_of rows.entries) row
      × (is_alike (first_of row) (seen_visit visit) ≡ true)
  has_row visit has = go (of_kind kind walk) refl
    where
      kind : Kind
      kind = kind_of visit

      is : Visit → Bool
      is other = same_kind (kind_of visit) (kind_of other)

      go : (hops : List Visit) → of_kind (kind_of visit) walk ≡ hops
          → (row : Wait) × Contains (values_of rows.entries) row
          × (is_alike (first_of row) (seen_visit visit) ≡ true)
      go [] none =
          absurd (some_pass (λ other. same_kind (kind_of visit) (kind_of other)) walk visit has
          (same_kind_equiv.refl (kind_of visit)) none)
      go (one ∷ others) some =
          let all : List Visited = map seen_visit (one ∷ others) in
          let row : Wait = record { first = one; sums = sums_of times angle all } in
          let found : get same_kind rows (kind_of visit) ≡ Some row =
          are.found (kind_of visit) ∙ ap (row_of times angle) some in
          let place = place_from_lookup (same_kind (kind_of visit)) rows.entries row found in
          let head = head_of (λ other. same_kind (kind_of visit) (kind_of other)) walk one others some in (
            row,
            contains_from_get (values_of rows.entries) place.0 row
                (slice_get-map (λ (e : Kind × Wait). e.1) rows.entries place.0
                ∙ ap (option_map (λ (e : Kind × Wait). e.1)) place.2),
            same_kind_equiv.symm (kind_of one) (kind_of visit) ∙ head.passes,
          )

  pub dearest_first : AreDearest time_in begun_in (values_of rows.entries)
      → AreDearestFirst (map seen_visit walk) (map first_of (values_of rows.entries))
  dearest_first sorted = record {
    first = λ one has.
        let at = contains_at (map first_of (values_of rows.entries)) one has in
        let row = row_at (values_of rows.entries) at.0 one at.1 in
        let entry = entry_is at.0 row.0 row.1 in
        subst (IsFirst (map seen_visit walk)) row.2 (is_first times angle walk entry.0 row.0 entry.2);
    all = λ hop has.
        let member = seen_member walk hop has in
        let row = has_row member.0 member.1 in (
          first_of row.0,
          contains_first row.0 row.1,
          ap (is_alike (first_of row.0)) (sym member.2) ∙ row.2,
        );
    apart = λ i j a b p q so.
        let first = row_at (values_of rows.entries) i a p in
        let second = row_at (values_of rows.entries) j b q in
        let one = entry_is i first.0 first.1 in
        let other = entry_is j second.0 second.1 in
        let alike : same_kind (kind_of first.0.first) (kind_of second.0.first) ≡ true =
        ap (λ (hop : Visited). is_alike hop (first_of second.0)) first.2 ∙ ap (is_alike a) second.2 ∙ so in
        one_place rows are.apart i j one.0 other.0 (key_at rows.entries i one.0 first.0 one.1)
        (key_at rows.entries j other.0 second.0 other.1)
        (same_kind_equiv.congr one.0 (kind_of first.0.first) other.0 one.2.head.passes
        ∙ same_kind_equiv.symm (kind_of first.0.first) other.0
        ∙ same_kind_equiv.congr other.0 (kind_of second.0.first) (kind_of first.0.first) other.2.head.passes
        ∙ same_kind_equiv.symm (kind_of second.0.first) (kind_of first.0.first) ∙ alike);
    order = λ k a b p q.
        let first = row_at (values_of rows.entries) k a p in
        let second = row_at (values_of rows.entries) (suc k) b q in
        let one = sum_of first.0 (contains_from_get (values_of rows.entries) k first.0 first.1) in
        let other = sum_of second.0 (contains_from_get (values_of rows.entries) (suc k) second.0 second.1) in
        let took : first.0.sums.time ≡ time_alike (map seen_visit walk) a =
        ap (λ (sums : Sums). sums.time) one ∙ ap (time_alike (map seen_visit walk)) first.2 in
        let takes : second.0.sums.time ≡ time_alike (map seen_visit walk) b =
        ap (λ (sums : Sums). sums.time) other ∙ ap (time_alike (map seen_visit walk)) second.2 in
        let begins : first.0.first.begun ≡ a.begun = ap (λ (hop : Visited). hop.begun) first.2 in
        let later : second.0.first.begun ≡ b.begun = ap (λ (hop : Visited). hop.begun) second.2 in
        comes_before a b first.0.sums.time second.0.sums.time first.0.first.begun second.0.first.begun took takes begins
        later (sorted k first.0 second.0 first.1 second.1);
  }
    where
      contains_first : (row : Wait) → Contains (values_of rows.entries) row
          → Contains (map first_of (values_of rows.entries)) (first_of row)
      contains_first row has = contains_map first_of (values_of rows.entries) row has

      comes_before : (a b : Visited) (took takes begins later : ℕ)
          → took ≡ time_alike (map seen_visit walk) a → takes ≡ time_alike (map seen_visit walk) b
          → begins ≡ a.begun → later ≡ b.begun
          → (takes < took) ⊎ ((took ≡ takes) × (begins ≤ later)) → ComesBefore (map seen_visit walk) a b
      comes_before a b took takes begins later p q r s (inl less) = inl (omega (arith, p, q, less))
      comes_before a b took takes begins later p q r s (inr same) =
          inr (sym p ∙ same.0 ∙ q, omega (arith, r, s, same.1))

-- ---- how long a walk takes

pub spent_all : (visits : List Visited) (begun used : ℕ) → AreInTime begun visits used
    → begun + sum_by time_of visits ≡ used
spent_all [] begun used in_time = omega (arith, in_time)
spent_all (visit ∷ visits) begun used in_time =
    omega (
      arith,
      in_time.0,
      in_time.1,
      sum_by-cons time_of visit visits,
      spent_all visits visit.ended used in_time.2,
    )

-- hops that follow one another in time take all of it
pub spends : (visits : List Visited) (used : ℕ) → ∥ AreInTime 0 visits used ∥₁
    → sum_by time_of visits ≡ used
spends visits used in_time =
    ∥∥₁_elim in_time (hlevel props) (λ (one : AreInTime 0 visits used). omega (arith, spent_all visits 0 used one))

module _ {S : Type 0} (times : Op → Entry) (angle : ℕ) (walk : List Visit) (rows : IndexMap Kind Wait S)
    (are : AreRows times angle walk rows) where
  -- no row takes longer
  pub row_short : (row : Wait) → Contains (values_of rows.entries) row
      → row.sums.time ≤ sum_by time_of (map seen_visit walk)
  row_short row has =
      let at = contains_at (values_of rows.entries) row has in
      let entry = entry_is times angle walk rows are at.0 row at.1 in
      omega (
        arith,
        ap (λ (sums : Sums). sums.time) entry.2.sums,
        part_le time_of (λ (v : Visit). same_kind entry.0 (kind_of v)) walk,
      )

  rows_are : (waits : Waits) → waits.rows.items ≡ values_of rows.entries
      → waits.waited ≡ waited_of times angle (map seen_visit walk)
      → AreDearest time_in begun_in (values_of rows.entries) → AreWaits times angle (map seen_visit walk) waits
  rows_are waits same all sorted = record {
    rows = λ row has.
        sum_of times angle walk rows are row
        (subst (λ (all : List Wait). Contains all row) same has);
    firsts =
        subst (λ (all : List Wait). AreDearestFirst (map seen_visit walk) (map first_of all))
        (sym same) (dearest_first times angle walk rows are sorted);
    waited = all;
  }

  -- The rows, sorted, are the waits of the visits that are seen so.
  pub are_waits : (start : ℕ) (visits : List Visited) → angle ≡ start → map seen_visit walk ≡ visits
      → (waits : Waits) → waits.rows.items ≡ values_of rows.entries
      → waits.waited ≡ waited_of times start visits
      → AreDearest time_in begun_in (values_of rows.entries) → AreWaits times start visits waits
  are_waits start visits at seen waits same all sorted =
      subst (λ (hops : List Visited). AreWaits times start hops waits) seen
      (subst (λ (a : ℕ). AreWaits times a (map seen_visit walk) waits) at
      (rows_are waits same
      (all ∙ ap (waited_of times start) (sym seen) ∙ ap (λ (a : ℕ). waited_of times a (map seen_visit walk)) (sym at))
      sorted))
