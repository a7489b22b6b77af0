-- Edges in another order: as many of them have a property, none stands there twice, and they close
-- the loops.
use Rattle.std.proofs.Common.{◌≡◌, ℕ, zero, suc, ◌+◌, ◌≤◌, Bool, true, false, eqb, List, [], ◌∷◌, map, length, get_or}
use Rattle.std.proofs.Common.{refl, ap, sym, ◌∙◌, subst, inl, inr, ◌⊎◌, arith, Option, Some}
use Rattle.std.specs.Prelude.{Contains, IsPermutation, All, cond, filter, sum_by, slice_get, ◌&&◌, ◌||◌}
use Rattle.std.specs.List.{list_any}
use Rattle.std.specs.List.Sorted.{IsNonDecreasingBy}
use Rattle.std.proofs.lemmas.Bool.{eq-eqb, eqb-true}
use Rattle.std.proofs.lemmas.List.Recursion.{is_sum_by}
use Rattle.std.proofs.lemmas.List.Sorted.{Contains-permutation, IsPermutation-sym, sum_by-IsPermutation}
use Rattle.std.proofs.lemmas.List.Sums.{length-filter}
use Rattle.std.proofs.lemmas.Option.{get_or_from_slice_get, slice_get_within}
use Rattle.base_words.specs.declared.word.Word.{Word}
use Rattle.base_notes.specs.Allowed.{Notes}
use Rattle.base_graphs.specs.Graph.{LeadRound}
use Rattle.base_graphs.proofs.Lists.{contains_cases, contains_here, contains_none, contains_there}
use Rattle.flow_graph.specs.Hops.{Node}
use Rattle.flow_loops.specs.Loops.{AreApart, AreClosing, IsFreeBeside, IsFreeBut}
use Rattle.check_deck.specs.Those.{AreThose}
use Rattle.check_deck.specs.Insides.{AreFewestFirst, AreSoMany}
use Rattle.check_deck.proofs.Unsaids.{those_one}

-- whether two edges are one
abbrev same_edge : ℕ × ℕ → ℕ × ℕ → Bool
same_edge a b = eqb a.0 b.0 && eqb a.1 b.1

same_itself : (a : ℕ × ℕ) → same_edge a a ≡ true
same_itself a = ap (λ (b : Bool). b && eqb a.1 a.1) (eq-eqb a.0 a.0 refl) ∙ eq-eqb a.1 a.1 refl

same_one : (a b : ℕ × ℕ) → same_edge a b ≡ true → a ≡ b
same_one a b is = go (eqb a.0 b.0) (eqb a.1 b.1) refl refl is
  where
    go : (x y : Bool) → eqb a.0 b.0 ≡ x → eqb a.1 b.1 ≡ y → (x && y) ≡ true → a ≡ b
    go true true first second both =
        ap {B = ℕ × ℕ} (λ (n : ℕ). (n, a.1)) (eqb-true a.0 b.0 first)
        ∙ ap {B = ℕ × ℕ} (λ (n : ℕ). (b.0, n)) (eqb-true a.1 b.1 second)
    go true false first second both = cc
    go false y first second both = cc

-- whether an edge is one of these
abbrev is_one_of : List (ℕ × ℕ) → ℕ × ℕ → Bool
is_one_of edges edge = list_any (λ one. same_edge one edge) edges

one_of_so : (edges : List (ℕ × ℕ)) (edge : ℕ × ℕ) → Contains edges edge → is_one_of edges edge ≡ true
one_of_so [] edge there = absurd (contains_none edge there)
one_of_so (one ∷ edges) edge there = go (same_edge one edge) refl (contains_cases one edge edges there)
    (one_of_so edges edge)
  where
    go : (b : Bool) → same_edge one edge ≡ b → (one ≡ edge) ⊎ Contains edges edge
        → (Contains edges edge → is_one_of edges edge ≡ true) → (b || is_one_of edges edge) ≡ true
    go true e either more = refl
    go false e (inl same) more =
        let is : same_edge one edge ≡ true = subst (λ (z : ℕ × ℕ). same_edge one z ≡ true) same (same_itself one) in
        let clash : true ≡ false = sym is ∙ e in
        cc
    go false e (inr behind) more = more behind

one_of_only : (edges : List (ℕ × ℕ)) (edge : ℕ × ℕ) → is_one_of edges edge ≡ true → Contains edges edge
one_of_only [] edge is = cc
one_of_only (one ∷ edges) edge is = go (same_edge one edge) refl is (one_of_only edges edge)
  where
    go : (b : Bool) → same_edge one edge ≡ b → (b || is_one_of edges edge) ≡ true
        → (is_one_of edges edge ≡ true → Contains edges edge) → Contains (one ∷ edges) edge
    go true e either more =
        subst (λ (z : ℕ × ℕ). Contains (one ∷ edges) z) (same_one one edge e) (contains_here one edges)
    go false e either more = contains_there one edge edges (more either)

module _ (P : ℕ × ℕ → Type 0) where
  -- those that have a property are what a test keeps that passes just these
  kept_those : (p : ℕ × ℕ → Bool) (xs : List (ℕ × ℕ)) → ((x : ℕ × ℕ) → Contains xs x → p x ≡ true → P x)
      → ((x : ℕ × ℕ) → Contains xs x → P x → p x ≡ true) → AreThose P xs (filter p xs)
  kept_those p [] only so = refl
  kept_those p (x ∷ xs) only so = go (p x) refl
      (kept_those p xs (λ y there. only y (contains_there x y xs there)) (λ y there. so y (contains_there x y xs there)))
    where
      go : (b : Bool) → p x ≡ b → AreThose P xs (filter p xs)
          → AreThose P (x ∷ xs) (cond b (x ∷ filter p xs) (filter p xs))
      go true e more = inl (only x (contains_here x xs) e, (filter p xs, refl, more))
      go false e more = inr (λ is. (let clash : true ≡ false = sym (so x (contains_here x xs) is) ∙ e in cc), more)

  -- those that have it have it, and each that has it is one of those
  those_only : (xs those : List (ℕ × ℕ)) → AreThose P xs those → (x : ℕ × ℕ) → Contains those x → P x
  those_only [] those none x there =
      absurd (contains_none x (subst (λ (all : List (ℕ × ℕ)). Contains all x) none there))
  those_only (a ∷ xs) those (inl one) x there =
      elim (contains_cases a x one.1.0 (subst (λ (all : List (ℕ × ℕ)). Contains all x) one.1.1 there)) [
        | inl same ↦ subst P same one.0
        | inr behind ↦ those_only xs one.1.0 one.1.2 x behind
      ]
  those_only (a ∷ xs) those (inr one) x there = those_only xs those one.1 x there

  those_all : (xs those : List (ℕ × ℕ)) → AreThose P xs those → (x : ℕ × ℕ) → Contains xs x → P x → Contains those x
  those_all [] those none x there is = absurd (contains_none x there)
  those_all (a ∷ xs) those (inl one) x there is =
      subst (λ (all : List (ℕ × ℕ)). Contains all x) (sym one.1.1) (elim (contains_cases a x xs there) [
        | inl same ↦ subst (λ (z : ℕ × ℕ). Contains (a ∷ one.1.0) z) same (contains_here a one.1.0)
        | inr behind ↦ contains_there a x one.1.0 (those_all xs one.1.0 one.1.2 x behind is)
      ])
  those_all (a ∷ xs) those (inr one) x there is = elim (contains_cases a x xs there) [
    | inl same ↦ absurd (one.0 (subst P (sym same) is))
    | inr behind ↦ those_all xs those one.1 x behind is
  ]

  -- there is one number of those
  pub many_one : (xs : List (ℕ × ℕ)) (m n : ℕ) → AreSoMany P xs m → AreSoMany P xs n → m ≡ n
  many_one xs m n one other =
      sym one.counted ∙ ap length (those_one P xs one.those other.those one.are other.are) ∙ other.counted

  -- and in another order there are as many
  pub many_moved : (xs ys : List (ℕ × ℕ)) (n : ℕ) → IsPermutation xs ys → AreSoMany P xs n → AreSoMany P ys n
  many_moved xs ys n moved so =
      let p : ℕ × ℕ → Bool = is_one_of so.those in
      let only : (x : ℕ × ℕ) → p x ≡ true → P x = λ x is.
      those_only xs so.those so.are x (one_of_only so.those x is) in
      let all : (x : ℕ × ℕ) → Contains xs x → P x → p x ≡ true = λ x there is.
      one_of_so so.those x (those_all xs so.those so.are x there is) in
      let before : filter p xs ≡ so.those =
      those_one P xs (filter p xs) so.those (kept_those p xs (λ x there. only x) all) so.are in
      record {
        those = filter p ys;
        are =
            kept_those p ys (λ x there. only x)
            (λ x there. all x (Contains-permutation ys xs x (IsPermutation-sym xs ys moved) there));
        counted =
            length-filter p ys ∙ sum_by-IsPermutation (λ (x : ℕ × ℕ). cond (p x) 1 0) xs ys moved
            ∙ sym (length-filter p xs) ∙ ap length before ∙ so.counted;
      }

-- how often a test passes, which stays in another order
abbrev times : (ℕ × ℕ → Bool) → List (ℕ × ℕ) → ℕ
times p [] = 0
times p (x ∷ xs) = cond (p x) 1 0 + times p xs

times_sum : (p : ℕ × ℕ → Bool) (xs : List (ℕ × ℕ)) → times p xs ≡ sum_by (λ (x : ℕ × ℕ). cond (p x) 1 0) xs
times_sum p xs = is_sum_by (times p) (λ (x : ℕ × ℕ). cond (p x) 1 0) refl (λ y ys. refl) xs

times_moved : (p : ℕ × ℕ → Bool) (xs ys : List (ℕ × ℕ)) → IsPermutation xs ys → times p ys ≡ times p xs
times_moved p xs ys moved =
    times_sum p ys ∙ sum_by-IsPermutation (λ (x : ℕ × ℕ). cond (p x) 1 0) xs ys moved ∙ sym (times_sum p xs)

count_none : (p : ℕ × ℕ → Bool) (xs : List (ℕ × ℕ)) → ((x : ℕ × ℕ) → Contains xs x → p x ≡ false)
    → times p xs ≡ 0
count_none p [] none = refl
count_none p (x ∷ xs) none =
    ap (λ (b : Bool). cond b 1 0 + times p xs) (none x (contains_here x xs))
    ∙ ap (λ (n : ℕ). 0 + n) (count_none p xs (λ y there. none y (contains_there x y xs there)))

count_some : (p : ℕ × ℕ → Bool) (xs : List (ℕ × ℕ)) (x : ℕ × ℕ) → Contains xs x → p x ≡ true → 1 ≤ times p xs
count_some p [] x there is = absurd (contains_none x there)
count_some p (a ∷ xs) x there is = elim (contains_cases a x xs there) [
  | inl same ↦ subst (λ (b : Bool). 1 ≤ cond b 1 0 + times p xs) (sym (ap p same ∙ is)) (omega arith)
  | inr behind ↦ omega (arith, count_some p xs x behind is)
]

-- where none stands twice, each is counted once at most; and where it is, none does
apart_once : (xs : List (ℕ × ℕ)) → AreApart xs → (x : ℕ × ℕ) → times (same_edge x) xs ≤ 1
apart_once [] apart x = omega arith
apart_once (a ∷ xs) apart x = go (same_edge x a) refl (apart_once xs apart.1 x)
  where
    different : (y : ℕ × ℕ) → Contains xs y → x ≡ a → (b : Bool) → same_edge x y ≡ b → b ≡ false
    different y there same true e =
        absurd (apart.0 (subst (λ (z : ℕ × ℕ). Contains xs z) (sym (same_one x y e) ∙ same) there))
    different y there same false e = refl

    go : (b : Bool) → same_edge x a ≡ b → times (same_edge x) xs ≤ 1 → cond b 1 0 + times (same_edge x) xs ≤ 1
    go true e more =
        let none : times (same_edge x) xs ≡ 0 =
        count_none (same_edge x) xs (λ y there. different y there (same_one x a e) (same_edge x y) refl) in
        omega (arith, none)
    go false e more = omega (arith, more)

once_apart : (xs : List (ℕ × ℕ)) → ((x : ℕ × ℕ) → times (same_edge x) xs ≤ 1) → AreApart xs
once_apart [] once = tt
once_apart (a ∷ xs) once = (
  λ there. twice (subst (λ (b : Bool). cond b 1 0 + times (same_edge a) xs ≤ 1) (same_itself a) (once a))
      (count_some (same_edge a) xs a there (same_itself a)),
  once_apart xs (λ x. omega (arith, once x)),
)
  where
    twice : 1 + times (same_edge a) xs ≤ 1 → 1 ≤ times (same_edge a) xs → ⊥
    twice few some = omega (arith, few, some)

-- links of one kind that are links of another lead round as they do
round_along : (L M : Node → Node → Type 0) → ((a b : Node) → L a b → M a b) → (first node : Node) (xs : List Node)
    → LeadRound L first node xs → LeadRound M first node xs
round_along L M along first node [] lead = along node first lead
round_along L M along first node (next ∷ nexts) lead =
    (along node next lead.0, round_along L M along first next nexts lead.1)

module _ (loads : ℕ → Option Word) (notes : Notes) (start : ℕ) (xs ys : List (ℕ × ℕ)) (moved : IsPermutation xs ys)
    (closing : AreClosing loads notes start xs) where
  back : (edge : ℕ × ℕ) → Contains ys edge → Contains xs edge
  back edge = Contains-permutation ys xs edge (IsPermutation-sym xs ys moved)

  forth : (edge : ℕ × ℕ) → Contains xs edge → Contains ys edge
  forth edge = Contains-permutation xs ys edge moved

  pub closing_moved : AreClosing loads notes start ys
  closing_moved = record {
    needed = λ edge there.
        let is = closing.needed edge (back edge there) in
        record {
          first = is.first;
          others = is.others;
          within = is.within;
          closed = round_along (IsFreeBut loads notes xs edge) (IsFreeBut loads notes ys edge)
              (λ a b free. (free.0, λ one. free.1 (back (a.place, b.place) one))) is.first is.first is.others is.closed;
        };
    enough =
        λ first others reached closed. closing.enough first others reached
        (round_along (IsFreeBeside loads notes ys) (IsFreeBeside loads notes xs)
        (λ a b left. (left.0, λ one. left.1 (forth (a.place, b.place) one))) first first others closed);
    apart =
        once_apart ys (λ x. omega (
          arith,
          times_moved (same_edge x) xs ys moved,
          apart_once xs closing.apart x,
        ));
  }

-- what a member of a mapped list is of
mapped_at : {X : Type 0} (f : X → ℕ × ℕ) (xs : List X) (k : ℕ) (y : ℕ × ℕ) → slice_get (map f xs) k ≡ Some y
    → (x : X) × (slice_get xs k ≡ Some x) × (f x ≡ y)
mapped_at f [] k y e = cc
mapped_at f (x ∷ xs) zero y e =
    let same : f x ≡ y = cc in
    (x, refl, same)
mapped_at f (x ∷ xs) (suc k) y e = mapped_at f xs k y e

-- edges that are sorted by inside how many loops their own stands
module _ {X : Type 0} (IsInside : ℕ × ℕ → ℕ × ℕ → Type 0) (edge_in : X → ℕ × ℕ) (many : X → ℕ)
    (edges : List (ℕ × ℕ)) (sorted : List X) (moved : IsPermutation edges (map edge_in sorted))
    (counts : All (λ (one : X). AreSoMany (λ outer. IsInside outer (edge_in one)) edges (many one)) sorted)
    (rising : IsNonDecreasingBy many sorted) where
  counted : (k n : ℕ) (one : X) (edge : ℕ × ℕ) → slice_get sorted k ≡ Some one → edge_in one ≡ edge
      → AreSoMany (λ outer. IsInside outer edge) (map edge_in sorted) n → n ≡ many one
  counted k n one edge here same so =
      let at : get_or sorted k one ≡ one = get_or_from_slice_get sorted k one one here in
      let was : AreSoMany (λ outer. IsInside outer (edge_in one)) edges (many one) =
      subst (λ (x : X). AreSoMany (λ outer. IsInside outer (edge_in x)) edges (many x)) at
      (counts k one (slice_get_within sorted k one here)) in
      many_one (λ outer. IsInside outer edge) (map edge_in sorted) n (many one) so
      (many_moved (λ outer. IsInside outer edge) edges (map edge_in sorted) (many one) moved
      (subst (λ (e : ℕ × ℕ). AreSoMany (λ outer. IsInside outer e) edges (many one)) same was))

  pub sorted_outer : AreFewestFirst IsInside (map edge_in sorted)
  sorted_outer k i j a b at_a at_b of_a of_b =
      let one = mapped_at edge_in sorted k a at_a in
      let next = mapped_at edge_in sorted (suc k) b at_b in
      let first : get_or sorted k one.0 ≡ one.0 = get_or_from_slice_get sorted k one.0 one.0 one.1 in
      let second : get_or sorted (suc k) one.0 ≡ next.0 =
      get_or_from_slice_get sorted (suc k) next.0 one.0 next.1 in
      let rises : many (get_or sorted k one.0) ≤ many (get_or sorted (suc k) one.0) =
      rising k (suc k) one.0 (omega arith) (slice_get_within sorted (suc k) next.0 next.1) in
      omega (
        arith,
        rises,
        ap many first,
        ap many second,
        counted k i one.0 a one.1 one.2 of_a,
        counted (suc k) j next.0 b next.1 next.2 of_b,
      )
