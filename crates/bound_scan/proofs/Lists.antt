-- What stands at a place of a list, and what is left from there on.
use Rattle.std.proofs.Common.{◌≡◌, ℕ, zero, suc, ◌+◌, ◌<◌, ◌≤◌, List, [], ◌∷◌, ◌++◌, drop, length, refl, ap, sym, ◌∙◌, Some, arith}
use Rattle.std.specs.Prelude.{slice_get}
use Rattle.std.proofs.lemmas.List.{drop-drop}

-- its first is the member at the place
pub drop_at : {X : Type 0} (n : ℕ) (xs : List X) (x : X) → slice_get xs n ≡ Some x → drop n xs ≡ x ∷ drop (suc n) xs
drop_at n [] x at = absurd (cc)
drop_at zero (y ∷ xs) x at =
    let same : y ≡ x = cc in
    ap (λ (z : _). z ∷ xs) same
drop_at (suc n) (y ∷ xs) x at = drop_at n xs x at

-- past the end nothing is
pub drop_past : {X : Type 0} (n : ℕ) (xs : List X) → length xs ≤ n → drop n xs ≡ []
drop_past zero [] past = refl
drop_past (suc n) [] past = refl
drop_past zero (x ∷ xs) past = absurd (omega (arith, past))
drop_past (suc n) (x ∷ xs) past = drop_past n xs (omega (arith, past))

-- the first of what is left stands at the number of those that came before it
pub first_left : {X : Type 0} (n : ℕ) (all rest : List X) (x : X) → drop n all ≡ x ∷ rest → slice_get all n ≡ Some x
first_left zero [] rest x left = cc
first_left zero (y ∷ all) rest x left =
    let same : y ≡ x = cc in
    ap Some same
first_left (suc n) [] rest x left = cc
first_left (suc n) (y ∷ all) rest x left = first_left n all rest x left

-- and the others are left after it
pub others_left : {X : Type 0} (n : ℕ) (all rest : List X) (x : X) → drop n all ≡ x ∷ rest → drop (n + 1) all ≡ rest
others_left {X = X} n all rest x left = sym (drop-drop 1 n all) ∙ ap (λ (xs : List X). drop 1 xs) left

-- what stands behind a list
pub get_before : {X : Type 0} (xs : List X) (x : X) (k : ℕ) → k < length xs
    → slice_get (xs ++ x ∷ []) k ≡ slice_get xs k
get_before [] x k within = absurd (omega (arith, within))
get_before (y ∷ xs) x zero within = refl
get_before (y ∷ xs) x (suc k) within = get_before xs x k (omega (arith, within))

pub get_behind : {X : Type 0} (xs : List X) (x : X) (k : ℕ) → k ≡ length xs → slice_get (xs ++ x ∷ []) k ≡ Some x
get_behind [] x zero is = refl
get_behind [] x (suc k) is = absurd (omega (arith, is))
get_behind (y ∷ xs) x zero is = absurd (omega (arith, is))
get_behind (y ∷ xs) x (suc k) is = get_behind xs x k (omega (arith, is))
