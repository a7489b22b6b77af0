-- A list with those of others at its end that aren't in it yet, by a test that tells which are the same.
use Rattle.std.proofs.Common.{◌≡◌, ℕ, zero, suc, ◌<◌, ◌≤◌, Bool, true, false, List, [], ◌∷◌, ◌++◌, length}
use Rattle.std.proofs.Common.{get_or, Option, Some, refl, ap, sym, ◌∙◌, subst, inl, inr, ◌⊎◌, arith}
use Rattle.std.specs.Prelude.{slice_get, Contains, Decides, if◌then◌else◌, ◌||◌}
use Rattle.std.specs.List.{list_any}
use Rattle.std.proofs.lemmas.Bool.{cases_lt, or_right}
use Rattle.std.proofs.lemmas.List.Elements.{Contains-append_cases, Contains-push}
use Rattle.std.proofs.lemmas.Option.{slice_get-get_or}
use Rattle.base_graphs.specs.Graph.{AreDifferent}
use Rattle.base_graphs.proofs.Lists.{contains_here, contains_there, contains_cases, contains_none, contains_at}
use Rattle.base_graphs.proofs.Lists.{contains_from_get, distinct_push}
use Rattle.flow_graph.specs.Executed.{with_new_by}

pub get_push : {X : Type 0} (xs : List X) (y : X) (k : ℕ) (x : X) → slice_get xs k ≡ Some x
    → slice_get (xs ++ y ∷ []) k ≡ Some x
get_push [] y k x e = cc
get_push (a ∷ xs) y zero x e = e
get_push (a ∷ xs) y (suc k) x e = get_push xs y k x e

inside : {X : Type 0} (xs : List X) (k : ℕ) (x : X) → slice_get xs k ≡ Some x → k < length xs
inside [] k x e = cc
inside (a ∷ xs) zero x e = omega arith
inside (a ∷ xs) (suc k) x e = omega (arith, inside xs k x e)

pushed_at : {X : Type 0} (xs : List X) (x : X) → slice_get (xs ++ x ∷ []) (length xs) ≡ Some x
pushed_at [] x = refl
pushed_at (a ∷ xs) x = pushed_at xs x

pushed_long : {X : Type 0} (xs : List X) (x : X) → length (xs ++ x ∷ []) ≡ suc (length xs)
pushed_long [] x = refl
pushed_long (a ∷ xs) x = ap suc (pushed_long xs x)

module _ {X : Type 0} (same : X → X → Bool) (law : (a b : X) → Decides (same a b) (a ≡ b)) where
  abbrev pub grown : List X → List X → List X
  grown = with_new_by same

  abbrev pub is_there : List X → X → Bool
  is_there xs y = list_any (λ x. same x y) xs

  -- a member, as the test finds it
  pub any_there : (xs : List X) (y : X) → is_there xs y ≡ true → Contains xs y
  any_there [] y e = cc
  any_there (x ∷ xs) y e = go (same x y) refl e (any_there xs y)
    where
      go : (b : Bool) → same x y ≡ b → (b || is_there xs y) ≡ true → (is_there xs y ≡ true → Contains xs y)
          → Contains (x ∷ xs) y
      go true is h others = subst (λ z. Contains (x ∷ xs) z) ((law x y).0 is) (contains_here x xs)
      go false is h others = contains_there x y xs (others h)

  pub there_any : (xs : List X) (y : X) → Contains xs y → is_there xs y ≡ true
  there_any [] y there = absurd (contains_none y there)
  there_any (x ∷ xs) y there = go (contains_cases x y xs there) (there_any xs y)
    where
      go : (x ≡ y) ⊎ Contains xs y → (Contains xs y → is_there xs y ≡ true) → (same x y || is_there xs y) ≡ true
      go (inl equal) others = ap (λ (b : Bool). b || is_there xs y) ((law x y).1 equal)
      go (inr behind) others = or_right (same x y) (is_there xs y) (others behind)

  -- what was there stays where it was
  pub grown_keeps : (all xs : List X) (k : ℕ) (x : X) → slice_get all k ≡ Some x → slice_get (grown all xs) k ≡ Some x
  grown_keeps all [] k x e = e
  grown_keeps all (y ∷ xs) k x e =
      go (is_there all y) (grown_keeps all xs k x e) (grown_keeps (all ++ y ∷ []) xs k x (get_push all y k x e))
    where
      go : (b : Bool) → slice_get (grown all xs) k ≡ Some x → slice_get (grown (all ++ y ∷ []) xs) k ≡ Some x
          → slice_get (if b then grown all xs else grown (all ++ y ∷ []) xs) k ≡ Some x
      go true there more = there
      go false there more = more

  pub grown_kept : (all xs : List X) (x : X) → Contains all x → Contains (grown all xs) x
  grown_kept all xs x there =
      let found : (k : ℕ) × (slice_get all k ≡ Some x) = contains_at all x there in
      contains_from_get (grown all xs) found.0 x (grown_keeps all xs found.0 x found.1)

  -- all that is to be added is there
  pub grown_has : (all xs : List X) (x : X) → Contains xs x → Contains (grown all xs) x
  grown_has all [] x there = absurd (contains_none x there)
  grown_has all (y ∷ xs) x there =
      go (is_there all y) refl (grown_has all xs x) (grown_has (all ++ y ∷ []) xs x)
    where
      go : (b : Bool) → is_there all y ≡ b → (Contains xs x → Contains (grown all xs) x)
          → (Contains xs x → Contains (grown (all ++ y ∷ []) xs) x)
          → Contains (if b then grown all xs else grown (all ++ y ∷ []) xs) x
      go true found others more = elim (contains_cases y x xs there) [
        | inl equal ↦ grown_kept all xs x (subst (λ z. Contains all z) equal (any_there all y found))
        | inr behind ↦ others behind
      ]
      go false new others more = elim (contains_cases y x xs there) [
        | inl equal ↦ grown_kept (all ++ y ∷ []) xs x
            (subst (λ z. Contains (all ++ y ∷ []) z) equal (Contains-push all y))
        | inr behind ↦ more behind
      ]

  -- and nothing else
  pub grown_only : (all xs : List X) (x : X) → Contains (grown all xs) x → Contains all x ⊎ Contains xs x
  grown_only all [] x there = inl there
  grown_only all (y ∷ xs) x there =
      go (is_there all y) there (grown_only all xs x) (grown_only (all ++ y ∷ []) xs x)
    where
      go : (b : Bool) → Contains (if b then grown all xs else grown (all ++ y ∷ []) xs) x
          → (Contains (grown all xs) x → Contains all x ⊎ Contains xs x)
          → (Contains (grown (all ++ y ∷ []) xs) x → Contains (all ++ y ∷ []) x ⊎ Contains xs x)
          → Contains all x ⊎ Contains (y ∷ xs) x
      go true here others more =
          elim (others here) [ inl left ↦ inl left | inr right ↦ inr (contains_there y x xs right) ]
      go false here others more = elim (more here) [
        | inl left ↦ (elim (Contains-append_cases all (y ∷ []) x left) [
          | inl before ↦ inl before
          | inr last ↦ (elim (contains_cases y x [] last) [
            | inl equal ↦ inr (subst (λ z. Contains (y ∷ xs) z) equal (contains_here y xs))
            | inr none ↦ absurd (contains_none x none)
          ])
        ])
        | inr right ↦ inr (contains_there y x xs right)
      ]

  -- where none is there twice, none is then
  pub grown_different : (all xs : List X) → AreDifferent all → AreDifferent (grown all xs)
  grown_different all [] different = different
  grown_different all (y ∷ xs) different =
      go (is_there all y) refl (grown_different all xs different) (grown_different (all ++ y ∷ []) xs)
    where
      go : (b : Bool) → is_there all y ≡ b → AreDifferent (grown all xs)
          → (AreDifferent (all ++ y ∷ []) → AreDifferent (grown (all ++ y ∷ []) xs))
          → AreDifferent (if b then grown all xs else grown (all ++ y ∷ []) xs)
      go true found others more = others
      go false new others more = more (distinct_push all y different
          (λ there. let clash : ◌≡◌ {A = Bool} true false = sym (there_any all y there) ∙ new in cc))

  -- what stands where something was is what was there
  pub grown_before : (all xs : List X) (k : ℕ) (x : X) → k < length all → slice_get (grown all xs) k ≡ Some x
      → slice_get all k ≡ Some x
  grown_before all xs k x inside e =
      let here : slice_get all k ≡ Some (get_or all k x) = slice_get-get_or all k x inside in
      here ∙ sym (grown_keeps all xs k (get_or all k x) here) ∙ e

  -- lists that are added in turn
  pub grown_append : (all xs ys : List X) → grown all (xs ++ ys) ≡ grown (grown all xs) ys
  grown_append all [] ys = refl
  grown_append all (x ∷ xs) ys =
      go (is_there all x) (grown_append all xs ys) (grown_append (all ++ x ∷ []) xs ys)
    where
      go : (b : Bool) → grown all (xs ++ ys) ≡ grown (grown all xs) ys
          → grown (all ++ x ∷ []) (xs ++ ys) ≡ grown (grown (all ++ x ∷ []) xs) ys
          → (if b then grown all (xs ++ ys) else grown (all ++ x ∷ []) (xs ++ ys))
          ≡ grown (if b then grown all xs else grown (all ++ x ∷ []) xs) ys
      go true there new = there
      go false there new = new

  -- Something stands in this list, came from the others, and what came before it there stands before it.
  abbrev pub CameFrom : List X → List X → ℕ → X → Type 0
  CameFrom all xs k x = (j : ℕ) × (slice_get xs j ≡ Some x)
      × ((i : ℕ) (y : X) → i < j → slice_get xs i ≡ Some y → (h : ℕ) × (h < k) × (slice_get all h ≡ Some y))

  -- one more before the others, which stands there too
  came_later : (all xs : List X) (k : ℕ) (x z : X) → (h : ℕ) × (h < k) × (slice_get all h ≡ Some z)
      → CameFrom all xs k x → CameFrom all (z ∷ xs) k x
  came_later all xs k x z first (j, at, before) = (suc j, at, earlier)
    where
      earlier : (i : ℕ) (y : X) → i < suc j → slice_get (z ∷ xs) i ≡ Some y
          → (h : ℕ) × (h < k) × (slice_get all h ≡ Some y)
      earlier zero y less at =
          let equal : z ≡ y = cc in
          (first.0, first.1, first.2 ∙ ap Some equal)
      earlier (suc i) y less at = before i y (omega (arith, less)) at

  none_past : (all : List X) (k : ℕ) (x : X) → length all ≤ k → slice_get all k ≡ Some x → ⊥
  none_past all k x past e = omega (arith, past, inside all k x e)

  -- Where something stands that wasn't there before, it came from the others.
  pub grown_from : (all xs : List X) (k : ℕ) (x : X) → length all ≤ k → slice_get (grown all xs) k ≡ Some x
      → CameFrom (grown all xs) xs k x
  grown_from all [] k x past e = absurd (none_past all k x past e)
  grown_from all (z ∷ xs) k x past e =
      go (is_there all z) refl e (grown_from all xs k x past) (grown_from (all ++ z ∷ []) xs k x)
    where
      go : (b : Bool) → is_there all z ≡ b
          → slice_get (if b then grown all xs else grown (all ++ z ∷ []) xs) k ≡ Some x
          → (slice_get (grown all xs) k ≡ Some x → CameFrom (grown all xs) xs k x)
          → (length (all ++ z ∷ []) ≤ k → slice_get (grown (all ++ z ∷ []) xs) k ≡ Some x
          → CameFrom (grown (all ++ z ∷ []) xs) xs k x)
          → CameFrom (if b then grown all xs else grown (all ++ z ∷ []) xs) (z ∷ xs) k x
      go true is here others more =
          let there : (h : ℕ) × (slice_get all h ≡ Some z) = contains_at all z (any_there all z is) in
          came_later (grown all xs) xs k x z
          (there.0, omega (arith, past, inside all there.0 z there.1), grown_keeps all xs there.0 z there.1) (others here)
      go false is here others more = elim (cases_lt (length all) k) [
        | inl further ↦ came_later (grown (all ++ z ∷ []) xs) xs k x z (length all, further, pushed)
            (more (omega (arith, further, pushed_long all z)) here)
        | inr at_once ↦ (let last : k ≡ length all = omega (arith, at_once, past) in
            let both : ◌≡◌ {A = Option X} (Some z) (Some x) =
            sym pushed ∙ ap (slice_get (grown (all ++ z ∷ []) xs)) (sym last) ∙ here in
            (0, both, λ i y less at. absurd (omega (arith, less))))
      ]
        where
          pushed : slice_get (grown (all ++ z ∷ []) xs) (length all) ≡ Some z
          pushed = grown_keeps (all ++ z ∷ []) xs (length all) z (pushed_at all z)
