-- Lemmas on lists of numbers: members, lists without repeats, and a member that is written.
use Rattle.std.proofs.Common.{◌≡◌, ◌≢◌, ℕ, zero, suc, ◌<◌, List, [], ◌∷◌, ◌++◌, length, get_or, set, drop, map, reverse}
use Rattle.std.proofs.Common.{replicate, Some, refl, ap, sym, ◌∙◌, subst, inl, inr, ◌⊎◌, arith}
use Rattle.std.specs.Prelude.{slice_get, Contains}
use Rattle.std.specs.Option.{option_map}
use Rattle.std.proofs.lemmas.Option.{slice_get-map}
use Rattle.std.proofs.lemmas.List.{reverse-append}
use Rattle.std.proofs.lemmas.List.Elements.{Contains-append_left, Contains-append_right, Contains-append_cases}
use Rattle.base_graphs.specs.Graph.{AreDifferent}

pub contains_here : {X : Type 0} (x : X) (xs : List X) → Contains (x ∷ xs) x
contains_here x xs = (0, omega arith, refl)

pub contains_there : {X : Type 0} (x y : X) (xs : List X) → Contains xs y → Contains (x ∷ xs) y
contains_there x y xs h = (suc h.0, omega (arith, h.1), h.2)

pub contains_cases : {X : Type 0} (x y : X) (xs : List X) → Contains (x ∷ xs) y → (x ≡ y) ⊎ Contains xs y
contains_cases x y xs h = go h.0 h.1 h.2
  where
    go : (k : ℕ) → k < length (x ∷ xs) → get_or (x ∷ xs) k y ≡ y → (x ≡ y) ⊎ Contains xs y
    go zero lt e = inl e
    go (suc k) lt e = inr (k, omega (arith, lt), e)

pub contains_none : {X : Type 0} (y : X) → ¬ Contains [] y
contains_none y h = omega (arith, h.1)

-- a member stands somewhere
pub contains_at : {X : Type 0} (xs : List X) (y : X) → Contains xs y → (k : ℕ) × (slice_get xs k ≡ Some y)
contains_at [] y h = absurd (contains_none y h)
contains_at (x ∷ xs) y h =
    elim (contains_cases x y xs h) [
      | inl e ↦ (0, ap Some e)
      | inr
          there ↦ (let found : (k : ℕ) × (slice_get xs k ≡ Some y) = contains_at xs y there in (suc found.0, found.1))
    ]

pub contains_from_get : {X : Type 0} (xs : List X) (k : ℕ) (y : X) → slice_get xs k ≡ Some y → Contains xs y
contains_from_get [] k y e = cc
contains_from_get (x ∷ xs) zero y e =
    let same : x ≡ y = cc in
    (0, omega arith, same)
contains_from_get (x ∷ xs) (suc k) y e = contains_there x y xs (contains_from_get xs k y e)

-- the image of a member is a member of the images
pub contains_map : {X Y : Type 0} (f : X → Y) (xs : List X) (x : X) → Contains xs x → Contains (map f xs) (f x)
contains_map f xs x has =
    let at = contains_at xs x has in
    contains_from_get (map f xs) at.0 (f x) (slice_get-map f xs at.0 ∙ ap (option_map f) at.1)

pub contains_reverse : (xs : List ℕ) (y : ℕ) → Contains xs y → Contains (reverse xs) y
contains_reverse [] y h = absurd (contains_none y h)
contains_reverse (x ∷ xs) y h =
    let split : reverse (x ∷ xs) ≡ reverse xs ++ x ∷ [] = reverse-append (x ∷ []) xs in
    subst (λ (ys : List ℕ). Contains ys y) (sym split)
    (elim (contains_cases x y xs h) [
      | inl e ↦ Contains-append_right (reverse xs) (x ∷ []) y
          (subst (λ (z : ℕ). Contains (x ∷ []) z) e (contains_here x []))
      | inr there ↦ Contains-append_left (reverse xs) (x ∷ []) y (contains_reverse xs y there)
    ])

pub contains_reversed : (xs : List ℕ) (y : ℕ) → Contains (reverse xs) y → Contains xs y
contains_reversed [] y h = absurd (contains_none y h)
contains_reversed (x ∷ xs) y h =
    let split : reverse (x ∷ xs) ≡ reverse xs ++ x ∷ [] = reverse-append (x ∷ []) xs in
    elim (Contains-append_cases (reverse xs) (x ∷ []) y (subst (λ (ys : List ℕ). Contains ys y) split h)) [
      | inl left ↦ contains_there x y xs (contains_reversed xs y left)
      | inr last ↦ (elim (contains_cases x y [] last) [
        | inl e ↦ subst (λ (z : ℕ). Contains (x ∷ xs) z) e (contains_here x xs)
        | inr none ↦ absurd
            (contains_none y none)
      ])
    ]

pub contains_dropped : (xs : List ℕ) (k y : ℕ) → Contains (drop k xs) y → Contains xs y
contains_dropped xs zero y h = h
contains_dropped [] (suc k) y h = absurd (contains_none y h)
contains_dropped (x ∷ xs) (suc k) y h = contains_there x y xs (contains_dropped xs k y h)

-- a list without repeats, with one more at its end
pub distinct_push : {X : Type 0} (xs : List X) (y : X) → AreDifferent xs → ¬ Contains xs y → AreDifferent (xs ++ y ∷ [])
distinct_push [] y d new = (contains_none y, tt)
distinct_push (x ∷ xs) y d new = (
  λ there. elim (Contains-append_cases xs (y ∷ []) x there) [
    | inl in_xs ↦ d.0 in_xs
    | inr last ↦ (elim (contains_cases y x [] last) [
      | inl e ↦ new (subst (λ z. Contains (x ∷ xs) z) (sym e) (contains_here x xs))
      | inr none ↦ contains_none x
          none
    ])
  ],
  distinct_push xs y d.1 (λ there. new (contains_there x y xs there)),
)

-- and with one less there
pub distinct_prefix : (xs : List ℕ) (y : ℕ) → AreDifferent (xs ++ y ∷ []) → AreDifferent xs
distinct_prefix [] y d = tt
distinct_prefix (x ∷ xs) y d = (λ there. d.0 (Contains-append_left xs (y ∷ []) x there), distinct_prefix xs y d.1)

pub distinct_last : (xs : List ℕ) (y : ℕ) → AreDifferent (xs ++ y ∷ []) → ¬ Contains xs y
distinct_last [] y d h = contains_none y h
distinct_last (x ∷ xs) y d h = elim (contains_cases x y xs h) [
  | inl e ↦ d.0 (subst (λ (z : ℕ). Contains (xs ++ y ∷ []) z) (sym e)
      (Contains-append_right xs (y ∷ []) y (contains_here y [])))
  | inr there ↦ distinct_last xs y d.1 there
]

pub distinct_dropped : (xs : List ℕ) (k : ℕ) → AreDifferent xs → AreDifferent (drop k xs)
distinct_dropped xs zero d = d
distinct_dropped [] (suc k) d = tt
distinct_dropped (x ∷ xs) (suc k) d = distinct_dropped xs k d.1

pub distinct_reversed : (xs : List ℕ) → AreDifferent xs → AreDifferent (reverse xs)
distinct_reversed [] d = tt
distinct_reversed (x ∷ xs) d =
    let split : reverse (x ∷ xs) ≡ reverse xs ++ x ∷ [] = reverse-append (x ∷ []) xs in
    subst AreDifferent (sym split)
    (distinct_push (reverse xs) x (distinct_reversed xs d.1) (λ there. d.0 (contains_reversed xs x there)))

-- a member that is written
pub get_written : {X : Type 0} (xs : List X) (k : ℕ) (y : X) → k < length xs → slice_get (set xs k y) k ≡ Some y
get_written [] k y lt = absurd (omega (arith, lt))
get_written (x ∷ xs) zero y lt = refl
get_written (x ∷ xs) (suc k) y lt = get_written xs k y (omega (arith, lt))

pub get_other : {X : Type 0} (xs : List X) (k j : ℕ) (y : X) → j ≢ k → slice_get (set xs k y) j ≡ slice_get xs j
get_other [] k j y ne = refl
get_other (x ∷ xs) zero zero y ne = absurd (ne refl)
get_other (x ∷ xs) zero (suc j) y ne = refl
get_other (x ∷ xs) (suc k) zero y ne = refl
get_other (x ∷ xs) (suc k) (suc j) y ne = get_other xs k j y (λ e. ne (ap suc e))

-- a member of a list of one value
pub get_replicated : {X : Type 0} (n k : ℕ) (x y : X) → slice_get (replicate n x) k ≡ Some y → x ≡ y
get_replicated zero k x y e = cc
get_replicated (suc n) zero x y e = cc
get_replicated (suc n) (suc k) x y e = get_replicated n k x y e

-- what stands at two places of a list without repeats stands at one
pub one_place : {X : Type 0} (xs : List X) (i j : ℕ) (x : X) → AreDifferent xs → slice_get xs i ≡ Some x → slice_get xs j ≡ Some x → i ≡ j
one_place [] i j x d a b = cc
one_place (y ∷ xs) zero zero x d a b = refl
one_place (y ∷ xs) zero (suc j) x d a b =
    let same : x ≡ y = cc in
    absurd (d.0 (contains_from_get xs j y (b ∙ ap Some same)))
one_place (y ∷ xs) (suc i) zero x d a b =
    let same : x ≡ y = cc in
    absurd (d.0 (contains_from_get xs i y (a ∙ ap Some same)))
one_place (y ∷ xs) (suc i) (suc j) x d a b = ap suc (one_place xs i j x d.1 a b)
