-- Words that are put into an image one after the other.
use Rattle.std.proofs.Common.{◌≡◌, ℕ, zero, suc, ◌+◌, ◌<◌, ◌≤◌, false, List, [], ◌∷◌, length, get_or, set, refl, ap}
use Rattle.std.proofs.Common.{sym, ◌∙◌, subst, arith, inl, inr, ◌⊎◌, Option, Some, None}
use Rattle.std.proofs.lemmas.Bool.{cases_lt}
use Rattle.std.specs.Prelude.{slice_get, is_some}

-- what is put in a place is there
pub slice_get-set_same : {A : Type 0} (xs : List A) (i : ℕ) (x : A) → i < length xs → slice_get (set xs i x) i ≡ Some x
slice_get-set_same [] i x within = absurd (omega arith)
slice_get-set_same (y ∷ ys) zero x within = refl
slice_get-set_same (y ∷ ys) (suc i) x within = slice_get-set_same ys i x (omega arith)

-- and what is in another stays
pub slice_get-set_other : {A : Type 0} (xs : List A) (i j : ℕ) (x : A) → (i ≡ j → ⊥)
    → slice_get (set xs i x) j ≡ slice_get xs j
slice_get-set_other [] i j x other = refl
slice_get-set_other (y ∷ ys) zero zero x other = absurd (other refl)
slice_get-set_other (y ∷ ys) zero (suc j) x other = refl
slice_get-set_other (y ∷ ys) (suc i) zero x other = refl
slice_get-set_other (y ∷ ys) (suc i) (suc j) x other = slice_get-set_other ys i j x (λ e. other (ap suc e))

pub none_is : {A : Type 0} (slot : Option A) → is_some slot ≡ false → slot ≡ None
none_is None e = refl
none_is (Some one) e = cc

-- what is read of a place is there
pub read_at : {A : Type 0} (xs : List A) (n : ℕ) (d x : A) → n < length xs → get_or xs n d ≡ x → slice_get xs n ≡ Some x
read_at [] n d x within e = absurd (omega (arith, within))
read_at (y ∷ ys) zero d x within e = ap Some e
read_at (y ∷ ys) (suc n) d x within e = read_at ys n d x (omega (arith, within)) e

-- and where nothing is read there is nothing
pub free_at : {A : Type 0} (xs : List (Option A)) (n : ℕ) (d : Option A) → n < length xs
    → ((x : A) → get_or xs n d ≡ Some x → ⊥) → slice_get xs n ≡ Some None
free_at {A} xs n d within none = go (get_or xs n d) refl
  where
    go : (slot : Option A) → get_or xs n d ≡ slot → slice_get xs n ≡ Some None
    go None e = read_at xs n d None within e
    go (Some x) e = absurd (none x e)

-- what the words so far leave of an image, from before them to after
pub record ArePut {A B : Type 0} (put_as : B → A) (old image : List (Option A)) (first place : ℕ)
    (words : List B) : Type 0 where
  pub put : (k : ℕ) (word : B) → k < place → slice_get words k ≡ Some word
      → slice_get image (first + k) ≡ Some (Some (put_as word))
  pub others : (n : ℕ) → (n < first) ⊎ (first + place ≤ n) → slice_get image n ≡ slice_get old n

-- one word more
pub put_more : {A B : Type 0} (put_as : B → A) (old image : List (Option A)) (first place : ℕ) (words : List B)
    (word : B) → ArePut put_as old image first place words
    → first + place < length image → slice_get words place ≡ Some word
    → ArePut put_as old (set image (first + place) (Some (put_as word))) first (place + 1) words
put_more {A} {B} put_as old image first place words word puts within this =
    let new : List (Option A) = set image (first + place) (Some (put_as word)) in
    record {
      put = λ k one below is_word. elim (cases_lt k place) [
        | inl before ↦ slice_get-set_other image (first + place) (first + k) (Some (put_as word))
            (λ e. omega (arith, e)) ∙ puts.put k one before is_word
        | inr upto ↦
            let at : place ≡ k = omega arith in
            let same : Some word ≡ Some one = sym this ∙ ap (slice_get words) at ∙ is_word in
            let one_word : word ≡ one = cc in
            let there : slice_get new (first + place) ≡ Some (Some (put_as word)) =
            slice_get-set_same image (first + place) (Some (put_as word)) within in
            subst (λ (n : ℕ). slice_get new (first + n) ≡ Some (Some (put_as one))) at
            (there ∙ ap (λ (w : B). Some (Some (put_as w))) one_word)
      ];
      others =
          λ n out. slice_get-set_other image (first + place) n (Some (put_as word))
          (λ e. elim out [ inl low ↦ omega (arith, e, low) | inr high ↦ omega (arith, e, high) ])
          ∙ puts.others n (elim out [ inl low ↦ inl low | inr high ↦ inr (omega (arith, high)) ]);
    }
