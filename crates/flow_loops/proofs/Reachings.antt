-- What is reached from a node past a location: members of a list, each of which in turn adds those
-- that its edges lead to, but for nodes at that location.
use Rattle.std.proofs.Common.{◌≡◌, ◌≢◌, ℕ, ◌+◌, ◌<◌, ◌≤◌, List, ◌∷◌, ◌++◌, length, Option, Some, []}
use Rattle.std.proofs.Common.{Bool, true, false, refl, ap, sym, ◌∙◌, subst, inl, inr, arith, cond, eqb}
use Rattle.std.specs.Prelude.{slice_get, slice_index, Contains, filter, not}
use Rattle.std.specs.List.{range_with_len}
use Rattle.std.proofs.lemmas.Bool.{cases_lt}
use Rattle.std.proofs.lemmas.Bool.Decides.{Decides-eqb}
use Rattle.std.proofs.lemmas.List.Elements.{All-contains, All-contains_itself, All-filter, Contains-get_or, filter_passes}
use Rattle.std.proofs.lemmas.List.FromFn.{get_or-range_with_len, length-range_with_len}
use Rattle.std.proofs.lemmas.Option.{slice_get_within}
use Rattle.base_graphs.specs.Graph.{AreDifferent}
use Rattle.base_graphs.proofs.Lists.{contains_here, contains_there, contains_cases, contains_none, contains_at}
use Rattle.base_graphs.proofs.Lists.{contains_from_get}
use Rattle.base_graphs.proofs.Members.{no_more}
use Rattle.flow_graph.specs.Executed.{with_new}
use Rattle.flow_graph.proofs.Orders.{with_new_keeps, with_new_has, with_new_only, with_new_different, with_new_before}
use Rattle.flow_loops.specs.Loops.{LeadBy}
use Rattle.flow_loops.specs.Reached.{GoesPast, LeadsPast, is_elsewhere}

-- what a filter keeps
filter_has : (p : ℕ → Bool) (xs : List ℕ) (x : ℕ) → Contains xs x → p x ≡ true → Contains (filter p xs) x
filter_has p [] x there told = absurd (contains_none x there)
filter_has p (y ∷ xs) x there told = elim (contains_cases y x xs there) [
  | inl same ↦ (let here : p y ≡ true = ap p same ∙ told in
      subst (λ (b : Bool). Contains (cond b (y ∷ filter p xs) (filter p xs)) x) (sym here)
      (subst (λ (n : ℕ). Contains (y ∷ filter p xs) n) same (contains_here y (filter p xs))))
  | inr behind ↦ go (p y) (filter_has p xs x behind told)
]
  where
    go : (b : Bool) → Contains (filter p xs) x → Contains (cond b (y ∷ filter p xs) (filter p xs)) x
    go true later = contains_there y x (filter p xs) later
    go false later = later

filter_only : (p : ℕ → Bool) (xs : List ℕ) (x : ℕ) → Contains (filter p xs) x → Contains xs x × (p x ≡ true)
filter_only p xs x there = (
  All-contains (Contains xs) (filter p xs) x (All-filter p (Contains xs) xs (All-contains_itself xs)) there,
  All-contains (λ y. p y ≡ true) (filter p xs) x (filter_passes p xs) there,
)

-- whether two are different
pub told_other : (a b : ℕ) → a ≢ b → not (eqb a b) ≡ true
told_other a b other = go (eqb a b) refl
  where
    go : (same : Bool) → eqb a b ≡ same → not same ≡ true
    go true e = absurd (other ((Decides-eqb a b).0 e))
    go false e = refl

other_told : (a b : ℕ) → not (eqb a b) ≡ true → a ≢ b
other_told a b told same =
    let clash : false ≡ true = sym (ap not ((Decides-eqb a b).1 same)) ∙ told in cc

pub told_same : (a b : ℕ) → a ≡ b → not (eqb a b) ≡ false
told_same a b same = ap not ((Decides-eqb a b).1 same)

lead_push : (Link : ℕ → ℕ → Type 0) (node mid next : ℕ) (through : List ℕ) → LeadBy Link node through mid
    → Link mid next → LeadBy Link node (through ++ next ∷ []) next
lead_push Link node mid next [] lead edge = (subst (λ (n : ℕ). Link n next) (sym lead) edge, refl)
lead_push Link node mid next (one ∷ through) lead edge = (lead.0, lead_push Link one mid next through lead.1 edge)

pub stays : (members xs : List ℕ) (x : ℕ) → Contains members x → Contains (with_new members xs) x
stays members xs x there =
    let found : (k : ℕ) × (slice_get members k ≡ Some x) = contains_at members x there in
    contains_from_get (with_new members xs) found.0 x (with_new_keeps members xs found.0 x found.1)

-- So far: the members are reached, and those before this place have added what edges lead to.
pub record IsReaching (row : ℕ → List ℕ) (places : List ℕ) (avoided from turn : ℕ) (members : List ℕ) : Type 0 where
  pub begun : Contains members from
  pub different : AreDifferent members
  pub reached : (node : ℕ) → Contains members node → LeadsPast row places avoided from node
  pub added : (k node next : ℕ) → k < turn → slice_get members k ≡ Some node → GoesPast row places avoided node next
      → Contains members next

module _ (row : ℕ → List ℕ) (places : List ℕ) (avoided from : ℕ) where
  module _ (turn node : ℕ) (members : List ℕ) (before : IsReaching row places avoided from turn members)
      (at : slice_get members turn ≡ Some node) where
    abbrev nexts : List ℕ
    nexts = filter (is_elsewhere places avoided) (row node)

    abbrev grown : List ℕ
    grown = with_new members nexts

    node_reached : LeadsPast row places avoided from node
    node_reached = before.reached node (contains_from_get members turn node at)

    more_reached : (one : ℕ) → Contains grown one → LeadsPast row places avoided from one
    more_reached one there = elim (with_new_only members nexts one there) [
      | inl old ↦ before.reached one old
      | inr new ↦ (let is = filter_only (is_elsewhere places avoided) (row node) one new in (
        node_reached.0 ++ one ∷ [],
        lead_push (GoesPast row places avoided) from node one node_reached.0 node_reached.1
            (is.0, other_told (slice_index places one) avoided is.1),
      ))
    ]

    more_added : (k one next : ℕ) → k < turn + 1 → slice_get grown k ≡ Some one → GoesPast row places avoided one next
        → Contains grown next
    more_added k one next high there edge =
        let inside : turn < length members = slice_get_within members turn node at in
        let was : slice_get members k ≡ Some one =
        with_new_before members nexts k one (omega (arith, high, inside)) there in
        elim (cases_lt k turn) [
          | inl earlier ↦ stays members nexts next (before.added k one next earlier was edge)
          | inr last ↦ (let same : k ≡ turn = omega (arith, last, high) in
              let equal : ◌≡◌ {A = Option ℕ} (Some one) (Some node) = sym was ∙ ap (slice_get members) same ∙ at in
              let own : one ≡ node = cc in
              let here : GoesPast row places avoided node next =
              subst (λ (n : ℕ). GoesPast row places avoided n next) own edge in
              with_new_has members nexts next
              (filter_has (is_elsewhere places avoided) (row node) next here.0
              (told_other (slice_index places next) avoided here.1)))
        ]

    -- and with what the edges of one more lead to
    pub reaching_more : (more : List ℕ) → more ≡ with_new members (filter (is_elsewhere places avoided) (row node))
        → IsReaching row places avoided from (turn + 1) more
    reaching_more more is = subst (IsReaching row places avoided from (turn + 1)) (sym is) (record {
      begun = stays members nexts from before.begun;
      different = with_new_different members nexts before.different;
      reached = more_reached;
      added = more_added;
    })

  -- once all have added theirs, just what is reached is there
  module _ (turn : ℕ) (members : List ℕ) (done : IsReaching row places avoided from turn members)
      (all : length members ≤ turn) where
    along : (node last : ℕ) (through : List ℕ) → Contains members node
        → LeadBy (GoesPast row places avoided) node through last → Contains members last
    along node last [] there lead = subst (λ (n : ℕ). Contains members n) lead there
    along node last (next ∷ through) there lead =
        let at : (k : ℕ) × (slice_get members k ≡ Some node) = contains_at members node there in
        let early : at.0 < turn = omega (arith, slice_get_within members at.0 node at.1, all) in
        along next last through (done.added at.0 node next early at.1 lead.0) lead.1

    pub all_reached : (node : ℕ) → LeadsPast row places avoided from node → Contains members node
    all_reached node lead = along from node lead.0 done.begun lead.1

  -- what is reached is within what the rows lead to
  module _ (size : ℕ) (within : (node next : ℕ) → Contains (row node) next → next < size) where
    lead_within : (node last : ℕ) (through : List ℕ) → node < size
        → LeadBy (GoesPast row places avoided) node through last → last < size
    lead_within node last [] inside lead = omega (arith, inside, lead)
    lead_within node last (next ∷ through) inside lead =
        lead_within next last through (within node next lead.0.0) lead.1

    pub reached_within : from < size → (node : ℕ) → LeadsPast row places avoided from node → node < size
    reached_within inside node lead = lead_within from node lead.0 inside lead.1

    -- so it is no more than there are
    pub reached_few : (turn : ℕ) (members : List ℕ) → from < size → IsReaching row places avoided from turn members
        → length members ≤ size
    reached_few turn members inside are =
        omega (
          arith,
          no_more members (range_with_len 0 size) are.different
              (λ node there. in_range node (reached_within inside node (are.reached node there))),
          length-range_with_len 0 size,
        )
      where
        in_range : (node : ℕ) → node < size → Contains (range_with_len 0 size) node
        in_range node below =
            let same = get_or-range_with_len 0 size node 0 below in
            let number : 0 + node ≡ node = omega arith in
            subst (λ (n : ℕ). Contains (range_with_len 0 size) n) (same ∙ number)
            (Contains-get_or (range_with_len 0 size) node 0 (omega (arith, below, length-range_with_len 0 size)))
