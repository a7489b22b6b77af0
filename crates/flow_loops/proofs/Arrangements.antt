-- The moves of the search that arranges a graph's nodes: each leaves a search, with fewer steps to take.
use Rattle.std.proofs.Common.{◌≡◌, ℕ, ◌+◌, ◌<◌, ◌≤◌, Bool, true, false, List, [], ◌∷◌, ◌++◌, length, get_or, set, reverse}
use Rattle.std.proofs.Common.{replicate, Option, Some, None, refl, ap, sym, ◌∙◌, subst, inl, inr, arith}
use Rattle.std.specs.Prelude.{slice_get, sum_by, Contains}
use Rattle.std.proofs.lemmas.Bool.{cases_lt}
use Rattle.std.proofs.lemmas.List.{length-set, length-replicate, get_or-replicate, get_or_past, reverse-append, append_assoc}
use Rattle.std.proofs.lemmas.List.{length_push}
use Rattle.std.proofs.lemmas.List.Elements.{Contains-append_left, Contains-append_cases, Contains-push_cases}
use Rattle.std.proofs.lemmas.List.Sums.{sum_by-set}
use Rattle.std.proofs.lemmas.Option.{slice_get_within, slice_get-get_or, get_or_from_slice_get}
use Rattle.base_graphs.specs.Graph.{AreDifferent}
use Rattle.base_graphs.specs.Search.{AreLinked, last_of}
use Rattle.base_graphs.proofs.Lists.{contains_at, contains_from_get, contains_none, contains_reversed}
use Rattle.flow_loops.specs.Arranged.{IsBefore, IsPlaced, IsArranged}
use Rattle.flow_loops.specs.Arranging.{IsArranging, steps_left}
use Rattle.flow_loops.proofs.Befores.{before_left, before_right, before_inserted, contains_inserted, contains_it}
use Rattle.flow_loops.proofs.Befores.{inserted_cases, distinct_inserted, placed_more}
use Rattle.flow_loops.proofs.Flags.{flag_kept, flags_more, none_flagged}
use Rattle.flow_loops.proofs.Paths.{linked_push, linked_prefix, path_leads}

module _ (row : ℕ → List ℕ) (size : ℕ) (met : List Bool) (passed path finished : List ℕ) (node : ℕ) where
  pub enter_sound : (rest : List ℕ) → IsArranging row size met passed path finished (path ++ rest)
      → slice_get met node ≡ Some false → ((last : ℕ) → last_of path ≡ Some last → Contains (row last) node)
      → IsArranging row size (set met node true) passed (path ++ node ∷ []) finished ((path ++ node ∷ []) ++ rest)
  enter_sound rest s new edge =
      let inside : node < length met = slice_get_within met node false new in
      record {
        met_long = length-set met node true ∙ s.met_long;
        passed_long = s.passed_long;
        flags =
            flags_more met (path ++ rest) ((path ++ node ∷ []) ++ rest) node inside s.flags (contains_it path rest node)
            (contains_inserted path rest node) (inserted_cases path rest node);
        behind = λ from k next lt at. flag_kept met node next inside (s.behind from k next lt at);
        linked = linked_push row path node s.linked edge;
        distinct = distinct_inserted path rest node s.distinct (λ there. not_met (s.flags.all node there) new);
        placed =
            λ from next done leads. placed_more row (path ++ rest) ((path ++ node ∷ []) ++ rest)
            (before_inserted path rest node) from next (s.placed from next done leads);
      }
    where
      not_met : slice_get met node ≡ Some true → slice_get met node ≡ Some false → ⊥
      not_met there new =
          let clash : ◌≡◌ {A = Option Bool} (Some true) (Some false) = sym there ∙ new in
          cc

  module _ (prefix : List ℕ) (s : IsArranging row size met passed path finished (path ++ reverse finished))
      (split : path ≡ prefix ++ node ∷ []) (last : last_of path ≡ Some node)
      (all : (next : ℕ) → Contains (row node) next → slice_get met next ≡ Some true) where
    -- the order stays
    parted : path ++ reverse finished ≡ prefix ++ node ∷ reverse finished
    parted =
        ap (λ (xs : List ℕ). xs ++ reverse finished) split ∙ append_assoc prefix (node ∷ []) (reverse finished)

    same_order : path ++ reverse finished ≡ prefix ++ reverse (finished ++ node ∷ [])
    same_order = parted ∙ ap (λ (xs : List ℕ). prefix ++ xs) (sym (reverse-append finished (node ∷ [])))

    -- its edges are placed
    placed_now : (next : ℕ) → Contains (row node) next → IsPlaced row (path ++ reverse finished) node next
    placed_now next edge =
        elim (Contains-append_cases path (reverse finished) next (s.flags.only next (all next edge))) [
          | inl on_path ↦ inr
              (path_leads row (path ++ reverse finished) node path next s.linked
              (before_left path (reverse finished)) last on_path)
          | inr later ↦ inl
              (subst (λ (xs : List ℕ). IsBefore xs node next) (sym parted)
              (before_right prefix (node ∷ reverse finished) node next (inl (refl, later))))
        ]

    pub leave_sound : IsArranging row size met passed prefix (finished ++ node ∷ [])
        (prefix ++ reverse (finished ++ node ∷ []))
    leave_sound =
        subst (λ (order : List ℕ). IsArranging row size met passed prefix (finished ++ node ∷ []) order) same_order
        (record {
          met_long = s.met_long;
          passed_long = s.passed_long;
          flags = s.flags;
          behind = s.behind;
          linked = linked_prefix row prefix node (subst (AreLinked row) split s.linked);
          distinct = s.distinct;
          placed = λ from next done edge. elim (Contains-push_cases finished node from done) [
            | inl before ↦ s.placed from next before edge
            | inr same ↦ subst (λ (n : ℕ). IsPlaced row (path ++ reverse finished) n next) same
                (placed_now next (subst (λ (n : ℕ). Contains (row n) next) (sym same) edge))
          ];
        })

-- fewer steps are left once a node is entered
pub less_entered : (met : List Bool) (path : List ℕ) (node : ℕ) → slice_get met node ≡ Some false
    → sum_by steps_left (set met node true) + length (path ++ node ∷ []) < sum_by steps_left met + length path
less_entered met path node new =
    let inside : node < length met = slice_get_within met node false new in
    let was : steps_left (get_or met node true) ≡ 2 = ap steps_left (get_or_from_slice_get met node false true new) in
    omega (arith, sum_by-set steps_left met node true true inside, was, length_push path node)

-- nothing is forgotten where a node is met
pub forgets_none : (met : List Bool) (node : ℕ) → slice_get met node ≡ Some false → (other : ℕ)
    → slice_get met other ≡ Some true → slice_get (set met node true) other ≡ Some true
forgets_none met node new other e = flag_kept met node other (slice_get_within met node false new) e

-- a search that hasn't begun
pub new_sound : (row : ℕ → List ℕ) (size : ℕ)
    → IsArranging row size (replicate size false) (replicate size 0) [] [] []
new_sound row size = record {
  met_long = length-replicate size false;
  passed_long = length-replicate size 0;
  flags = none_flagged size;
  behind = λ node k next lt at. absurd (none_passed node k lt);
  linked = tt;
  distinct = tt;
  placed = λ node next done edge. absurd (contains_none node done);
}
  where
    none_passed : (node k : ℕ) → k < get_or (replicate size 0) node 0 → ⊥
    none_passed node k lt = elim (cases_lt node size) [
      | inl within ↦ omega (arith, lt, get_or-replicate {A = ℕ} size node 0 0 within)
      | inr past ↦ omega (arith, lt, get_or_past {X = ℕ} (replicate size 0) node 0 (long past))
    ]
      where
        long : size ≤ node → length {A = ℕ} (replicate size 0) ≤ node
        long past = omega (arith, past, length-replicate {A = ℕ} size 0)

-- all nodes of a row are met where those are that were passed and those up to the row's end
pub row_passed : (row : List ℕ) (met : List Bool) (passed at : ℕ)
    → ((k next : ℕ) → k < passed → slice_get row k ≡ Some next → slice_get met next ≡ Some true)
    → ((k next : ℕ) → passed ≤ k → k < at → slice_get row k ≡ Some next → slice_get met next ≡ Some true)
    → slice_get row at ≡ None → (next : ℕ) → Contains row next → slice_get met next ≡ Some true
row_passed row met passed at before more past next there =
    let found : (k : ℕ) × (slice_get row k ≡ Some next) = contains_at row next there in
    let inside : found.0 < at = within found.0 found.1 in
    elim (cases_lt found.0 passed)
    [ inl low ↦ before found.0 next low found.1 | inr high ↦ more found.0 next high inside found.1 ]
  where
    within : (k : ℕ) → slice_get row k ≡ Some next → k < at
    within k here = elim (cases_lt k at) [ inl lt ↦ lt | inr le ↦ absurd (beyond k here le) ]
      where
        beyond : (k : ℕ) → slice_get row k ≡ Some next → at ≤ k → ⊥
        beyond k here le =
            let k_in : k < length row = slice_get_within row k next here in
            let at_in : at < length row = omega (arith, k_in, le) in
            let clash : ◌≡◌ {A = Option ℕ} None (Some (get_or row at 0)) = sym past ∙ slice_get-get_or row at 0 at_in in
            cc

module _ (row : ℕ → List ℕ) (size : ℕ) (met : List Bool) (passed path finished : List ℕ)
    (s : IsArranging row size met passed path finished (path ++ reverse finished)) where
  -- the path's last node has a number
  pub last_within : (node : ℕ) → last_of path ≡ Some node → node < size
  last_within node last =
      let there : Contains (path ++ reverse finished) node =
      Contains-append_left path (reverse finished) node (contains_from_get path _ node last) in
      omega (arith, slice_get_within met node true (s.flags.all node there), s.met_long)

  -- a search that has met all nodes, with an empty path, has them arranged
  pub all_arranged : path ≡ [] → ((node : ℕ) → node < size → slice_get met node ≡ Some true)
      → IsArranged row size (reverse finished)
  all_arranged empty met_all =
      let same : path ++ reverse finished ≡ reverse finished = ap (λ (xs : List ℕ). xs ++ reverse finished) empty in
      record {
        all = λ node inside. subst (λ (xs : List ℕ). Contains xs node) same (s.flags.only node (met_all node inside));
        within = λ node there. omega (
          arith,
          slice_get_within met node true
              (s.flags.all node (subst (λ (xs : List ℕ). Contains xs node) (sym same) there)),
          s.met_long,
        );
        distinct = subst AreDifferent same s.distinct;
        placed =
            λ node next there edge. subst (λ (xs : List ℕ). IsPlaced row xs node next) same
            (s.placed node next (contains_reversed finished node there) edge);
      }
