-- Lists and tests, for the proofs here.
use Rattle.std.proofs.Common.{◌≡◌, ◌∙◌, ◌<◌, ◌+◌, ◌&&◌, ℕ, Bool, cond, true, false, ap, refl, arith, Some, map, take}
use Rattle.std.proofs.Common.{length, List, [], ◌∷◌, ◌++◌, slice_index_or}
use Rattle.std.proofs.lemmas.List.{map-append, take_more}
use Rattle.std.specs.Prelude.{find}
use Rattle.std.specs.List.{list_all}
use Rattle.std.specs.Option.{option_map_or}
use Rattle.clap.specs.Walk.{is_empty}

-- a map of one element more
pub map-take_more : {X Y : Type 0} (f : X → Y) (xs : List X) (i : ℕ) (d : X) → i < length xs
    → map f (take (i + 1) xs) ≡ map f (take i xs) ++ f (slice_index_or xs i d) ∷ []
map-take_more f xs i d within =
    ap (map f) (take_more xs i d within) ∙ map-append f (take i xs) (slice_index_or xs i d ∷ [])

-- a list with one element more has one
pub is_empty-push : {X : Type 0} (xs : List X) (x : X) → is_empty (xs ++ x ∷ []) ≡ false
is_empty-push [] x = refl
is_empty-push (y ∷ ys) x = grind arith

-- ---- tests

pub and_both : (a b : Bool) → (a && b) ≡ true → (a ≡ true) × (b ≡ true)
and_both true b both = (refl, both)
and_both false b both = cc

pub and_of : (a b : Bool) → a ≡ true → b ≡ true → (a && b) ≡ true
and_of a b first second = rw first second

-- what is found among elements that all pass q passes both tests
pub find_passes : {X : Type 0} (p q : X → Bool) (xs : List X) → list_all q xs ≡ true
    → option_map_or (λ x. p x && q x) (find p xs) true ≡ true
find_passes p q [] all = refl
find_passes p q (x ∷ xs) all =
    let parts = and_both _ _ all in
    go (p x) refl parts.0 (find_passes p q xs parts.1)
  where
    go : (b : Bool) → p x ≡ b → q x ≡ true → option_map_or (λ y. p y && q y) (find p xs) true ≡ true
        → option_map_or (λ y. p y && q y) (cond b (Some x) (find p xs)) true ≡ true
    go true here passes later = and_of _ _ here passes
    go false here passes later = later

pub some_same : {X : Type 0} (x y : X) → Some x ≡ Some y → x ≡ y
some_same x y same = cc
