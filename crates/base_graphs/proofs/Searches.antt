-- The moves of a depth-first search: each leaves a search, with fewer steps to take.
use Rattle.std.proofs.Common.{◌≡◌, ◌≢◌, ℕ, zero, suc, ◌-◌, ◌<◌, ◌≤◌, List, [], ◌∷◌, ◌++◌, length, get_or, set, drop}
use Rattle.std.proofs.Common.{reverse, replicate, Option, Some, None, refl, ap, sym, ◌∙◌, subst, inl, inr, arith}
use Rattle.std.specs.Prelude.{slice_get, sum_by, Contains, IsSome, option_to_list, true, false}
use Rattle.std.proofs.lemmas.Bool.{cases_eq, cases_lt}
use Rattle.std.proofs.lemmas.List.{length-set, length-replicate, get_or-replicate, get_or_past, reverse-append}
use Rattle.std.proofs.lemmas.List.Elements.{Contains-append_left, Contains-append_cases, Contains-push}
use Rattle.std.proofs.lemmas.List.Sums.{sum_by-set}
use Rattle.std.proofs.lemmas.Option.{slice_get_within, slice_get-get_or, get_or_from_slice_get}
use Rattle.base_graphs.specs.declared.progress.Progress.{Progress}
use Rattle.base_graphs.specs.declared.progress.Progress.TheVariants.{New, Open, Finished}
use Rattle.base_graphs.specs.Graph.{AreDifferent, GoOn, Leads, LeadRound, IsClosed, IsCycle, IsTopologicalOrder}
use Rattle.base_graphs.specs.Search.{LeadAlong, AreLinked, last_of, IsSearch, steps_left, ForgetsNone}
use Rattle.base_graphs.proofs.Lists.{contains_at, contains_from_get, contains_cases, contains_none, contains_reverse}
use Rattle.base_graphs.proofs.Lists.{contains_reversed, contains_dropped, distinct_push, distinct_prefix, distinct_last}
use Rattle.base_graphs.proofs.Lists.{distinct_dropped, distinct_reversed, get_written, get_other, get_replicated}

last_cons : (a b : ℕ) (bs : List ℕ) → last_of (a ∷ b ∷ bs) ≡ last_of (b ∷ bs)
last_cons a b bs =
    let more : length (a ∷ b ∷ bs) - 1 ≡ suc (length bs) = omega arith in
    let less : length (b ∷ bs) - 1 ≡ length bs = omega arith in
    ap (slice_get (a ∷ b ∷ bs)) more ∙ sym (ap (slice_get (b ∷ bs)) less)

pub last_push : (xs : List ℕ) (y : ℕ) → last_of (xs ++ y ∷ []) ≡ Some y
last_push [] y = refl
last_push (a ∷ []) y = last_cons a y []
last_push (a ∷ b ∷ bs) y = last_cons a b (bs ++ y ∷ []) ∙ last_push (b ∷ bs) y

along_push : (row : ℕ → List ℕ) (node : ℕ) (xs : List ℕ) (y : ℕ) → LeadAlong row node xs
    → ((last : ℕ) → last_of (node ∷ xs) ≡ Some last → Contains (row last) y) → LeadAlong row node (xs ++ y ∷ [])
along_push row node [] y along edge = (edge node refl, tt)
along_push row node (b ∷ bs) y along edge =
    (along.0, along_push row b bs y along.1 (λ last e. edge last (last_cons node b bs ∙ e)))

linked_push : (row : ℕ → List ℕ) (xs : List ℕ) (y : ℕ) → AreLinked row xs
    → ((last : ℕ) → last_of xs ≡ Some last → Contains (row last) y) → AreLinked row (xs ++ y ∷ [])
linked_push row [] y linked edge = tt
linked_push row (a ∷ xs) y linked edge = along_push row a xs y linked edge

along_prefix : (row : ℕ → List ℕ) (node : ℕ) (xs : List ℕ) (y : ℕ) → LeadAlong row node (xs ++ y ∷ [])
    → LeadAlong row node xs
along_prefix row node [] y along = tt
along_prefix row node (b ∷ bs) y along = (along.0, along_prefix row b bs y along.1)

linked_prefix : (row : ℕ → List ℕ) (xs : List ℕ) (y : ℕ) → AreLinked row (xs ++ y ∷ []) → AreLinked row xs
linked_prefix row [] y linked = tt
linked_prefix row (a ∷ xs) y linked = along_prefix row a xs y linked

module _ (row : ℕ → List ℕ) (size : ℕ) (states : List Progress) (passed path finished : List ℕ) (node : ℕ) where
  pub enter_sound : IsSearch row size states passed path finished → slice_get states node ≡ Some New
      → ((last : ℕ) → last_of path ≡ Some last → Contains (row last) node)
      → IsSearch row size (set states node Open) passed (path ++ node ∷ []) finished
  enter_sound s new edge =
      let long : node < length states = slice_get_within states node New new in
      let here : slice_get (set states node Open) node ≡ Some Open = get_written states node Open long in
      let not_finished : (other : ℕ) → slice_get states other ≡ Some Finished → other ≢ node = λ other done e.
      let clash : ◌≡◌ {A = Option Progress} (Some Finished) (Some New) = sym done ∙ ap (slice_get states) e ∙ new in
      cc in
      let not_open : (other : ℕ) → slice_get states other ≡ Some Open → other ≢ node = λ other opened e.
      let clash : ◌≡◌ {A = Option Progress} (Some Open) (Some New) = sym opened ∙ ap (slice_get states) e ∙ new in
      cc in
      record {
        states_long = length-set states node Open ∙ s.states_long;
        passed_long = s.passed_long;
        open_on_path = λ other e. elim (cases_eq other node) [
          | inl same ↦ subst (λ (z : ℕ). Contains (path ++ node ∷ []) z) (sym same) (Contains-push path node)
          | inr ne ↦ Contains-append_left path (node ∷ []) other
              (s.open_on_path other (sym (get_other states node other Open ne) ∙ e))
        ];
        path_open = λ other there. elim (Contains-append_cases path (node ∷ []) other there) [
          | inl on_path ↦ get_other states node other Open (not_open other (s.path_open other on_path))
              ∙ s.path_open other on_path
          | inr last ↦ (elim (contains_cases node other [] last) [
            | inl same ↦ sym (ap (slice_get (set states node Open)) same)
                ∙ here
            | inr none ↦ absurd (contains_none other none)
          ])
        ];
        finished_there = λ other e. elim (cases_eq other node) [
          | inl same ↦ absurd (clash_here other same e here)
          | inr ne ↦ s.finished_there other (sym (get_other states node other Open ne) ∙ e)
        ];
        there_finished =
            λ other there. get_other states node other Open (not_finished other (s.there_finished other there))
            ∙ s.there_finished other there;
        behind =
            λ from k next lt at. get_other states node next Open (not_finished next (s.behind from k next lt at))
            ∙ s.behind from k next lt at;
        linked = linked_push row path node s.linked edge;
        path_distinct = distinct_push path node s.path_distinct (λ there. not_open node (s.path_open node there) refl);
        finished_distinct = s.finished_distinct;
        onward = s.onward;
      }
    where
      clash_here : (other : ℕ) → other ≡ node → slice_get (set states node Open) other ≡ Some Finished
          → slice_get (set states node Open) node ≡ Some Open → ⊥
      clash_here other same e here =
          let clash : ◌≡◌ {A = Option Progress} (Some Finished) (Some Open) =
          sym e ∙ ap (slice_get (set states node Open)) same ∙ here in
          cc

  pub leave_sound : (prefix : List ℕ) → IsSearch row size states passed path finished → path ≡ prefix ++ node ∷ []
      → ((next : ℕ) → Contains (row node) next → slice_get states next ≡ Some Finished)
      → IsSearch row size (set states node Finished) passed prefix (finished ++ node ∷ [])
  leave_sound prefix s split all =
      let path_distinct : AreDifferent (prefix ++ node ∷ []) = subst AreDifferent split s.path_distinct in
      let on_path : Contains path node =
      subst (λ (xs : List ℕ). Contains xs node) (sym split) (Contains-push prefix node) in
      let opened : slice_get states node ≡ Some Open = s.path_open node on_path in
      let long : node < length states = slice_get_within states node Open opened in
      let here : slice_get (set states node Finished) node ≡ Some Finished = get_written states node Finished long in
      let not_finished : (other : ℕ) → slice_get states other ≡ Some Finished → other ≢ node = λ other done e.
      let clash : ◌≡◌ {A = Option Progress} (Some Finished) (Some Open) = sym done ∙ ap (slice_get states) e ∙ opened in
      cc in
      let in_prefix : (other : ℕ) → Contains prefix other → Contains path other = λ other there.
      subst (λ (xs : List ℕ). Contains xs other) (sym split) (Contains-append_left prefix (node ∷ []) other there) in
      let not_in_front : (other : ℕ) → Contains prefix other → other ≢ node = λ other there e.
      distinct_last prefix node path_distinct (subst (λ (z : ℕ). Contains prefix z) e there) in
      record {
        states_long = length-set states node Finished ∙ s.states_long;
        passed_long = s.passed_long;
        open_on_path = λ other e. elim (cases_eq other node) [
          | inl same ↦ absurd (clash_here other same e here)
          | inr ne ↦ (elim (Contains-append_cases prefix (node ∷ []) other
              (subst (λ (xs : List ℕ). Contains xs other) split
              (s.open_on_path other (sym (get_other states node other Finished ne) ∙ e)))) [
                | inl there ↦ there
                | inr last ↦ (elim (contains_cases node other [] last)
                    [ inl same ↦ absurd (ne (sym same)) | inr none ↦ absurd (contains_none other none) ])
              ])
        ];
        path_open =
            λ other there. get_other states node other Finished (not_in_front other there)
            ∙ s.path_open other (in_prefix other there);
        finished_there = λ other e. elim (cases_eq other node) [
          | inl same ↦ subst (λ (z : ℕ). Contains (finished ++ node ∷ []) z) (sym same) (Contains-push finished node)
          | inr ne ↦ Contains-append_left finished (node ∷ []) other
              (s.finished_there other (sym (get_other states node other Finished ne) ∙ e))
        ];
        there_finished = λ other there. elim (Contains-append_cases finished (node ∷ []) other there) [
          | inl before ↦ get_other states node other Finished (not_finished other (s.there_finished other before))
              ∙ s.there_finished other before
          | inr last ↦ (elim (contains_cases node other [] last) [
            | inl same ↦ sym (ap (slice_get (set states node Finished)) same)
                ∙ here
            | inr none ↦ absurd (contains_none other none)
          ])
        ];
        behind =
            λ from k next lt at. get_other states node next Finished (not_finished next (s.behind from k next lt at))
            ∙ s.behind from k next lt at;
        linked = linked_prefix row prefix node (subst (AreLinked row) split s.linked);
        path_distinct = distinct_prefix prefix node path_distinct;
        finished_distinct =
            distinct_push finished node s.finished_distinct
            (λ there. not_finished node (s.there_finished node there) refl);
        onward = subst (GoOn (Leads row)) (sym (reverse-append finished (node ∷ [])))
            (λ next edge. contains_reverse finished next (s.finished_there next (all next edge)), s.onward);
      }
    where
      clash_here : (other : ℕ) → other ≡ node → slice_get (set states node Finished) other ≡ Some Open
          → slice_get (set states node Finished) node ≡ Some Finished → ⊥
      clash_here other same e here =
          let clash : ◌≡◌ {A = Option Progress} (Some Open) (Some Finished) =
          sym e ∙ ap (slice_get (set states node Finished)) same ∙ here in
          cc

-- nothing is forgotten where a node's state is written, but not as new
pub forgets_none : (states : List Progress) (node : ℕ) (state : Progress) → node < length states → state ≢ New
    → ForgetsNone states (set states node state)
forgets_none states node state long ne other e = elim (cases_eq other node) [
  | inl same ↦ absurd (ne (same_state
      (sym (get_written states node state long) ∙ sym (ap (slice_get (set states node state)) same) ∙ e)))
  | inr different ↦ sym (get_other states node other state different) ∙ e
]
  where
    same_state : ◌≡◌ {A = Option Progress} (Some state) (Some New) → state ≡ New
    same_state h = cc

-- fewer steps are left where a node's state is written that has fewer
pub less_left : (states : List Progress) (node : ℕ) (before after : Progress) → slice_get states node ≡ Some before
    → steps_left after < steps_left before
    → sum_by steps_left (set states node after) < sum_by steps_left states
less_left states node before after at less =
    let long : node < length states = slice_get_within states node before at in
    let was : steps_left (get_or states node after) ≡ steps_left before =
    ap steps_left (get_or_from_slice_get states node before after at) in
    omega (arith, sum_by-set steps_left states node after after long, was)

-- a search that hasn't begun
pub new_sound : (row : ℕ → List ℕ) (size : ℕ) → IsSearch row size (replicate size New) (replicate size 0) [] []
new_sound row size = record {
  states_long = length-replicate size New;
  passed_long = length-replicate size 0;
  open_on_path = λ node e. absurd (never_open node e);
  path_open = λ node there. absurd (contains_none node there);
  finished_there = λ node e. absurd (never_finished node e);
  there_finished = λ node there. absurd (contains_none node there);
  behind = λ node k next lt at. absurd (none_passed node k lt);
  linked = tt;
  path_distinct = tt;
  finished_distinct = tt;
  onward = tt;
}
  where
    never_open : (node : ℕ) → slice_get (replicate size New) node ≡ Some Open → ⊥
    never_open node e =
        let clash : New ≡ Open = get_replicated size node New Open e in
        cc

    never_finished : (node : ℕ) → slice_get (replicate size New) node ≡ Some Finished → ⊥
    never_finished node e =
        let clash : New ≡ Finished = get_replicated size node New Finished e in
        cc

    none_passed : (node k : ℕ) → k < get_or (replicate size 0) node 0 → ⊥
    none_passed node k lt = elim (cases_lt node size) [
      | inl within ↦ omega (arith, lt, get_or-replicate {A = ℕ} size node 0 0 within)
      | inr past ↦ omega (arith, lt, get_or_past {X = ℕ} (replicate size 0) node 0 (long past))
    ]
      where
        long : size ≤ node → length {A = ℕ} (replicate size 0) ≤ node
        long past = omega (arith, past, length-replicate {A = ℕ} size 0)

-- what is taken from the end of a path that ends with a node
pub popped : (path prefix : List ℕ) (taken : Option ℕ) (node : ℕ) → path ≡ prefix ++ option_to_list taken
    → (0 < length path → IsSome taken) → last_of path ≡ Some node
    → path ≡ prefix ++ node ∷ []
popped path prefix None node split some last =
    let long : length path - 1 < length path = slice_get_within path (length path - 1) node last in
    let clash : false ≡ true = some (omega (arith, long)) in
    cc
popped path prefix (Some one) node split some last =
    let same : ◌≡◌ {A = Option ℕ} (Some one) (Some node) = sym (last_push prefix one) ∙ sym (ap last_of split) ∙ last in
    let equal : one ≡ node = cc in
    subst (λ (z : ℕ). path ≡ prefix ++ z ∷ []) equal split

-- the path's last node is open
pub last_open : (row : ℕ → List ℕ) (size : ℕ) (states : List Progress) (passed path finished : List ℕ) (node : ℕ)
    → IsSearch row size states passed path finished
    → last_of path ≡ Some node → slice_get states node ≡ Some Open
last_open row size states passed path finished node s last =
    s.path_open node (contains_from_get path (length path - 1) node last)

-- all nodes of a row are finished where those are that were passed and those up to the row's end
pub row_passed : (row : List ℕ) (states : List Progress) (passed at : ℕ)
    → ((k next : ℕ) → k < passed → slice_get row k ≡ Some next → slice_get states next ≡ Some Finished)
    → ((k next : ℕ) → passed ≤ k → k < at → slice_get row k ≡ Some next → slice_get states next ≡ Some Finished)
    → slice_get row at ≡ None → (next : ℕ) → Contains row next → slice_get states next ≡ Some Finished
row_passed row states passed at before more past next there =
    let found : (k : ℕ) × (slice_get row k ≡ Some next) = contains_at row next there in
    let inside : found.0 < at = within found.0 found.1 in
    elim (cases_lt found.0 passed)
    [ inl low ↦ before found.0 next low found.1 | inr high ↦ more found.0 next high inside found.1 ]
  where
    within : (k : ℕ) → slice_get row k ≡ Some next → k < at
    within k here = elim (cases_lt k at) [ inl lt ↦ lt | inr le ↦ absurd (beyond k here le) ]
      where
        beyond : (k : ℕ) → slice_get row k ≡ Some next → at ≤ k → ⊥
        beyond k here le =
            let k_in : k < length row = slice_get_within row k next here in
            let at_in : at < length row = omega (arith, k_in, le) in
            let clash : ◌≡◌ {A = Option ℕ} None (Some (get_or row at 0)) = sym past ∙ slice_get-get_or row at 0 at_in in
            cc

-- the edges along a list, from a place of it on, and one from its last node to the first of these, lead round
round_from : (row : ℕ → List ℕ) (first node : ℕ) (xs : List ℕ) → LeadAlong row node xs
    → ((last : ℕ) → last_of (node ∷ xs) ≡ Some last → Contains (row last) first)
    → LeadRound (Leads row) first node xs
round_from row first node [] along edge = edge node refl
round_from row first node (b ∷ bs) along edge =
    (along.0, round_from row first b bs along.1 (λ last e. edge last (last_cons node b bs ∙ e)))

closed_along : (row : ℕ → List ℕ) (at first node : ℕ) (xs : List ℕ) → LeadAlong row node xs
    → slice_get (node ∷ xs) at ≡ Some first
    → ((last : ℕ) → last_of (node ∷ xs) ≡ Some last → Contains (row last) first) → IsClosed (Leads row) (drop at (node ∷ xs))
closed_along row zero first node xs along here edge =
    let same : node ≡ first = cc in
    round_from row node node xs along (λ last e. subst (λ (z : ℕ). Contains (row last) z) (sym same) (edge last e))
closed_along row (suc at) first node [] along here edge = cc
closed_along row (suc at) first node (b ∷ bs) along here edge =
    closed_along row at first b bs along.1 here (λ last e. edge last (last_cons node b bs ∙ e))

-- the cycle that an edge from the path's last node to one of its nodes closes
pub cycle_closed : (row : ℕ → List ℕ) (size : ℕ) (states : List Progress) (passed path finished : List ℕ) (at first : ℕ)
    → IsSearch row size states passed path finished
    → slice_get path at ≡ Some first → ((last : ℕ) → last_of path ≡ Some last → Contains (row last) first)
    → IsCycle row size (drop at path)
cycle_closed row size states passed path finished at first s here edge = record {
  within = λ node there.
      let opened : slice_get states node ≡ Some Open = s.path_open node (contains_dropped path at node there) in
      omega (arith, slice_get_within states node Open opened, s.states_long);
  distinct = distinct_dropped path at s.path_distinct;
  closed = closed path s.linked here edge;
}
  where
    closed : (nodes : List ℕ) → AreLinked row nodes → slice_get nodes at ≡ Some first
        → ((last : ℕ) → last_of nodes ≡ Some last → Contains (row last) first) → IsClosed (Leads row) (drop at nodes)
    closed [] linked e edge = cc
    closed (node ∷ nodes) linked e edge = closed_along row at first node nodes linked e edge

-- a search that has met all nodes, with an empty path, has them in order
pub all_ordered : (row : ℕ → List ℕ) (size : ℕ) (states : List Progress) (passed path finished : List ℕ)
    → IsSearch row size states passed path finished → path ≡ []
    → ((node : ℕ) → node < size → slice_get states node ≢ Some New) → IsTopologicalOrder row size (reverse finished)
all_ordered row size states passed path finished s empty met = record {
  all =
      λ node within. contains_reverse finished node
      (s.finished_there node (done node (get_or states node New) (omega (arith, within, s.states_long))
      (slice_get-get_or states node New (omega (arith, within, s.states_long)))));
  within =
      λ node there. omega (
        arith,
        slice_get_within states node Finished
            (s.there_finished node (contains_reversed finished node there)),
        s.states_long,
      );
  distinct = distinct_reversed finished s.finished_distinct;
  onward = s.onward;
}
  where
    done : (node : ℕ) (state : Progress) → node < length states → slice_get states node ≡ Some state
        → slice_get states node ≡ Some Finished
    done node New long here = absurd (met node (omega (arith, long, s.states_long)) here)
    done node Open long here =
        absurd (contains_none node (subst (λ (xs : List ℕ). Contains xs node) empty (s.open_on_path node here)))
    done node Finished long here = here

-- the path's last node has a number
pub last_within : (row : ℕ → List ℕ) (size : ℕ) (states : List Progress) (passed path finished : List ℕ) (node : ℕ)
    → IsSearch row size states passed path finished
    → last_of path ≡ Some node → node < size
last_within row size states passed path finished node s last =
    omega (
      arith,
      slice_get_within states node Open (last_open row size states passed path finished node s last),
      s.states_long,
    )
