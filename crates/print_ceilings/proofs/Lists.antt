-- What stands where in a list.
use Rattle.std.proofs.Common.{◌≡◌, ℕ, zero, suc, ◌+◌, ◌<◌, ◌≤◌, List, [], ◌∷◌, ◌++◌, length, take, drop, refl, ap, sym}
use Rattle.std.proofs.Common.{◌∙◌, arith, Some, None}
use Rattle.std.specs.Prelude.{slice_get}
use Rattle.std.proofs.lemmas.List.{at_drop_more, length-take, take-append-drop}
use Rattle.std.proofs.lemmas.Option.{get_or_from_slice_get, slice_get_within}
use Rattle.std.proofs.Math.Seq.{take-nil}

pub at_last : {X : Type 0} (xs : List X) (y : X) → slice_get (xs ++ y ∷ []) (length xs) ≡ Some y
at_last [] y = refl
at_last (x ∷ xs) y = at_last xs y

pub at_before : {X : Type 0} (xs : List X) (y : X) (k : ℕ) → k < length xs → slice_get (xs ++ y ∷ []) k ≡ slice_get xs k
at_before [] y k less = absurd (omega (arith, less))
at_before (x ∷ xs) y zero less = refl
at_before (x ∷ xs) y (suc k) less = at_before xs y k (omega (arith, less))

pub at_none : {X : Type 0} (xs : List X) (k : ℕ) → length xs ≤ k → slice_get xs k ≡ None
at_none [] k low = refl
at_none (x ∷ xs) zero low = absurd (omega (arith, low))
at_none (x ∷ xs) (suc k) low = at_none xs k (omega (arith, low))

pub past : {X : Type 0} (xs : List X) (k : ℕ) → slice_get xs k ≡ None → length xs ≤ k
past [] k none = omega arith
past (x ∷ xs) zero none = absurd (cc)
past (x ∷ xs) (suc k) none = omega (arith, past xs k none)

pub at_taken : {X : Type 0} (xs : List X) (n k : ℕ) → k < n → slice_get (take n xs) k ≡ slice_get xs k
at_taken [] n k less = ap (λ ys. slice_get ys k) (take-nil n)
at_taken (x ∷ xs) zero k less = absurd (omega (arith, less))
at_taken (x ∷ xs) (suc n) zero less = refl
at_taken (x ∷ xs) (suc n) (suc k) less = at_taken xs n k (omega (arith, less))

-- a list about one of its items
pub split_at : {X : Type 0} (xs : List X) (k : ℕ) (x : X) → slice_get xs k ≡ Some x
    → xs ≡ take k xs ++ x ∷ drop (k + 1) xs
split_at {X} xs k x at =
    sym (take-append-drop k xs)
    ∙ at_drop_more (λ (ys : List X). take k xs ++ ys) xs k x (slice_get_within xs k x at)
    ∙ ap (λ (y : X). take k xs ++ y ∷ drop (k + 1) xs) (get_or_from_slice_get xs k x x at)

pub long_taken : {X : Type 0} (xs : List X) (k : ℕ) → k ≤ length xs → length (take k xs) ≡ k
long_taken xs k within = omega (arith, within, length-take k xs)
