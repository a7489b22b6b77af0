-- The edges that don't go on, location by location.
use Rattle.std.proofs.Common.{◌≡◌, ℕ, zero, suc, ◌+◌, List, ◌∷◌, ◌++◌, take, Some, []}
use Rattle.std.proofs.Common.{ap, sym, subst, inl, inr}
use Rattle.std.specs.Prelude.{slice_get, Contains}
use Rattle.std.proofs.lemmas.List.Elements.{Contains-append_left, Contains-append_right, Contains-append_cases}
use Rattle.std.proofs.lemmas.List.Elements.{Contains-push, Contains-push_cases}
use Rattle.base_graphs.specs.Graph.{AreDifferent}
use Rattle.base_graphs.proofs.Lists.{contains_here, contains_there, contains_cases, contains_none}
use Rattle.base_graphs.proofs.Lists.{contains_from_get}
use Rattle.flow_loops.specs.Closing.{AreTargets, AreBack, IsBack, edges_onto}
use Rattle.flow_loops.specs.Loops.{AreApart}

onto_there : (from : ℕ) (targets : List ℕ) (onto : ℕ) → Contains targets onto
    → Contains (edges_onto from targets) (from, onto)
onto_there from [] onto there = absurd (contains_none onto there)
onto_there from (one ∷ targets) onto there = elim (contains_cases one onto targets there) [
  | inl same ↦ subst (λ (n : ℕ). Contains (edges_onto from (one ∷ targets)) (from, n)) same
      (contains_here (from, one) (edges_onto from targets))
  | inr behind ↦ contains_there (from, one) (from, onto) (edges_onto from targets) (onto_there from targets onto behind)
]

there_onto : (from : ℕ) (targets : List ℕ) (edge : ℕ × ℕ) → Contains (edges_onto from targets) edge
    → (from ≡ edge.0) × Contains targets edge.1
there_onto from [] edge there = absurd (contains_none edge there)
there_onto from (one ∷ targets) edge there =
    elim (contains_cases (from, one) edge (edges_onto from targets) there) [
      | inl same ↦ (
        ap (λ (pair : ℕ × ℕ). pair.0) same,
        subst (λ (n : ℕ). Contains (one ∷ targets) n) (ap (λ (pair : ℕ × ℕ). pair.1) same) (contains_here one targets),
      )
      | inr behind ↦ (let found = there_onto from targets edge behind in
          (found.0, contains_there one edge.1 targets found.1))
    ]

apart_onto : (from : ℕ) (targets : List ℕ) → AreDifferent targets → AreApart (edges_onto from targets)
apart_onto from [] different = tt
apart_onto from (one ∷ targets) different =
    (λ there. different.0 (there_onto from targets (from, one) there).1, apart_onto from targets different.1)

apart_append : (xs ys : List (ℕ × ℕ)) → AreApart xs → AreApart ys
    → ((edge : ℕ × ℕ) → Contains xs edge → Contains ys edge → ⊥) → AreApart (xs ++ ys)
apart_append [] ys one two never = two
apart_append (x ∷ xs) ys one two never = (
  λ there. elim (Contains-append_cases xs ys x there)
      [ inl left ↦ one.0 left | inr right ↦ never x (contains_here x xs) right ],
  apart_append xs ys one.1 two (λ edge left right. never edge (contains_there x edge xs left) right),
)

-- what stands at an index of a list without repeats doesn't stand before it
pub not_before : (xs : List ℕ) (k x : ℕ) → AreDifferent xs → slice_get xs k ≡ Some x → ¬ Contains (take k xs) x
not_before [] k x different at there = cc
not_before (y ∷ ys) zero x different at there = contains_none x there
not_before (y ∷ ys) (suc k) x different at there = elim (contains_cases y x (take k ys) there) [
  | inl same ↦ different.0 (subst (λ (n : ℕ). Contains ys n) (sym same) (contains_from_get ys k x at))
  | inr behind ↦ not_before ys k x different.1 at behind
]

-- the edges from one more location
pub back_more : (row : ℕ → List ℕ) (ranks places : List ℕ) (count : ℕ) (froms : List ℕ) (edges : List (ℕ × ℕ))
    (from : ℕ) (targets : List ℕ) → AreBack row ranks places count froms edges → ¬ Contains froms from
    → AreTargets row ranks places count from targets → AreDifferent targets
    → AreBack row ranks places count (froms ++ from ∷ []) (edges ++ edges_onto from targets)
back_more row ranks places count froms edges from targets before new are different = record {
  begins = λ a b there. elim (Contains-append_cases edges (edges_onto from targets) (a, b) there) [
    | inl was ↦ Contains-append_left froms (from ∷ []) a (before.begins a b was)
    | inr is ↦ subst (λ (n : ℕ). Contains (froms ++ from ∷ []) n) (there_onto from targets (a, b) is).0
        (Contains-push froms from)
  ];
  only = λ a b there. elim (Contains-append_cases edges (edges_onto from targets) (a, b) there) [
    | inl was ↦ before.only a b was
    | inr is ↦ (let found = there_onto from targets (a, b) is in
        subst (λ (n : ℕ). IsBack row ranks places count n b) found.0 (are.only b found.1))
  ];
  all = λ a b there is. elim (Contains-push_cases froms from a there) [
    | inl was ↦ Contains-append_left edges (edges_onto from targets) (a, b) (before.all a b was is)
    | inr same ↦ Contains-append_right edges (edges_onto from targets) (a, b)
        (subst (λ (n : ℕ). Contains (edges_onto from targets) (n, b)) same
        (onto_there from targets b (are.all b (subst (λ (n : ℕ). IsBack row ranks places count n b) (sym same) is))))
  ];
  apart = apart_append edges (edges_onto from targets) before.apart (apart_onto from targets different)
      (λ edge old more. new (subst (λ (n : ℕ). Contains froms n) (sym (there_onto from targets edge more).0)
      (before.begins edge.0 edge.1 old)));
}
