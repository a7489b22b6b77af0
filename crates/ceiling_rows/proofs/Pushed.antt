-- What a list with one more at its end has.
use Rattle.std.proofs.Common.{◌≡◌, ◌⊎◌, ℕ, zero, suc, ◌+◌, ◌<◌, ◌≤◌, List, [], ◌∷◌, ◌++◌, length, take, Some, refl}
use Rattle.std.proofs.Common.{ap, ◌∙◌, inl, inr, subst, arith}
use Rattle.std.specs.Prelude.{slice_get, Contains}
use Rattle.std.proofs.lemmas.List.{take_all, take_more}
use Rattle.std.proofs.lemmas.List.Elements.{Contains-push_cases}
use Rattle.std.proofs.lemmas.Option.{get_or_from_slice_get, slice_get_within}
use Rattle.base_graphs.proofs.Lists.{contains_cases, contains_here, contains_none, contains_there}

pub pushed : {X : Type 0} (xs : List X) (x y : X) (k : ℕ) → slice_get (xs ++ x ∷ []) k ≡ Some y
    → (slice_get xs k ≡ Some y) ⊎ ((k ≡ length xs) × (x ≡ y))
pushed [] x y zero at = inr (refl, cc)
pushed [] x y (suc k) at = absurd (cc)
pushed (z ∷ xs) x y zero at = inl at
pushed (z ∷ xs) x y (suc k) at = elim (pushed xs x y k at) [
  | inl before ↦ inl before
  | inr last ↦ (let more : suc k ≡ suc (length xs) = omega (arith, last.0) in inr (more, last.1))
]

pub contains_before : {X : Type 0} (xs : List X) (x y : X) → Contains xs y → Contains (xs ++ x ∷ []) y
contains_before [] x y there = absurd (contains_none y there)
contains_before (z ∷ xs) x y there = elim (contains_cases z y xs there) [
  | inl same ↦ subst (Contains (z ∷ (xs ++ x ∷ []))) same (contains_here z (xs ++ x ∷ []))
  | inr behind ↦ contains_there z y (xs ++ x ∷ []) (contains_before xs x y behind)
]

-- what the first k + 1 have, the first k have or it is the one more
pub taken_cases : {X : Type 0} (xs : List X) (k : ℕ) (x y : X) → slice_get xs k ≡ Some x → Contains (take (k + 1) xs) y
    → Contains (take k xs) y ⊎ (x ≡ y)
taken_cases xs k x y here there =
    let inside : k < length xs = slice_get_within xs k x here in
    let more : take (k + 1) xs ≡ take k xs ++ x ∷ [] =
    take_more xs k x inside ∙ ap (λ (z : _). take k xs ++ z ∷ []) (get_or_from_slice_get xs k x x here) in
    Contains-push_cases (take k xs) x y (subst (λ (ys : List _). Contains ys y) more there)

-- the first k are all, where there are no more
pub all_taken : {X : Type 0} (xs : List X) (k : ℕ) → length xs ≤ k → take k xs ≡ xs
all_taken xs k past = take_all k xs past

-- what stood there stays, and the one more is the last
pub pushed_within : {X : Type 0} (xs : List X) (x : X) (k : ℕ) (y : X) → slice_get xs k ≡ Some y
    → slice_get (xs ++ x ∷ []) k ≡ Some y
pushed_within [] x k y at = absurd (cc)
pushed_within (z ∷ xs) x zero y at = at
pushed_within (z ∷ xs) x (suc k) y at = pushed_within xs x k y at

pub pushed_last : {X : Type 0} (xs : List X) (x : X) (k : ℕ) → k ≡ length xs → slice_get (xs ++ x ∷ []) k ≡ Some x
pushed_last [] x zero at = refl
pushed_last [] x (suc k) at = absurd (omega (arith, at))
pushed_last (z ∷ xs) x zero at = absurd (omega (arith, at))
pushed_last (z ∷ xs) x (suc k) at = pushed_last xs x k (omega (arith, at))
