-- Flags that are set one after the other, and how many are set.
use Rattle.std.proofs.Common.{◌≡◌, ℕ, zero, suc, ◌+◌, ◌<◌, ◌≤◌, Bool, List, ◌∷◌, ◌++◌, length, get_or, take, drop, map, arith, []}
use Rattle.std.proofs.Common.{refl, ap, sym, ◌∙◌}
use Rattle.std.specs.Prelude.{slice_set, fold, cond, count_by, replicate, false}

module _ {X Y : Type 0} (f g : X → Y) where
  -- what one function gives of the elements before a place, and the other from there on
  abbrev pub mixed : ℕ → List X → List Y
  mixed i xs = map g (take i xs) ++ map f (drop i xs)

  -- the place further on, where the element there was replaced,
  pub mixed_set : (i : ℕ) (xs : List X) (d : X) → i < length xs
      → slice_set (mixed i xs) i (g (get_or xs i d)) ≡ mixed (i + 1) xs
  mixed_set i [] d inside = absurd (omega (arith, inside))
  mixed_set zero (x ∷ xs) d inside = refl
  mixed_set (suc i) (x ∷ xs) d inside =
      let more : suc (i + 1) ≡ suc i + 1 = omega arith in
      ap (λ (ys : List Y). g x ∷ ys) (mixed_set i xs d (omega (arith, inside)))
      ∙ ap (λ (n : ℕ). mixed n (x ∷ xs)) more

  -- at the end it is what the one gives
  pub mixed_all : (i : ℕ) (xs : List X) → length xs ≤ i → mixed i xs ≡ map g xs
  mixed_all zero [] whole = refl
  mixed_all (suc i) [] whole = refl
  mixed_all zero (x ∷ xs) whole = absurd (omega (arith, whole))
  mixed_all (suc i) (x ∷ xs) whole = ap (λ (ys : List Y). g x ∷ ys) (mixed_all i xs (omega (arith, whole)))

  -- at the place it is what the other gives
  pub mixed_at : (i : ℕ) (xs : List X) (d : X) (e : Y) → i < length xs → get_or (mixed i xs) i e ≡ f (get_or xs i d)
  mixed_at i [] d e inside = absurd (omega (arith, inside))
  mixed_at zero (x ∷ xs) d e inside = refl
  mixed_at (suc i) (x ∷ xs) d e inside = mixed_at i xs d e (omega (arith, inside))

  -- So it is one place further on, where what was held there is replaced by what the one gives.
  pub held_at : (i : ℕ) (xs : List X) (ys : List Y) (x : X) (held : Y) → i < length xs → x ≡ get_or xs i x
      → ys ≡ mixed i xs → held ≡ get_or ys i held → held ≡ f x
  held_at i xs ys x held inside at so_far is =
      is ∙ ap (λ (zs : List Y). get_or zs i held) so_far ∙ mixed_at i xs x held inside ∙ ap f (sym at)

  pub set_at : (i : ℕ) (xs : List X) (ys : List Y) (x : X) (now : Y) → i < length xs → x ≡ get_or xs i x
      → ys ≡ mixed i xs → now ≡ g x → slice_set ys i now ≡ mixed (i + 1) xs
  set_at i xs ys x now inside at so_far is =
      ap (λ (zs : List Y). slice_set zs i now) so_far ∙ ap (slice_set (mixed i xs) i) (is ∙ ap g at)
      ∙ mixed_set i xs x inside

-- functions that give the same
pub map_same : {X Y : Type 0} (f g : X → Y) (xs : List X) → ((x : X) → f x ≡ g x) → map f xs ≡ map g xs
map_same f g [] same = refl
map_same f g (x ∷ xs) same = grind (arith, same x, map_same f g xs same)

pub map_at : {X Y : Type 0} (f : X → Y) (xs : List X) (i : ℕ) (d : X) (e : Y) → i < length xs
    → get_or (map f xs) i e ≡ f (get_or xs i d)
map_at f [] i d e inside = absurd (omega (arith, inside))
map_at f (x ∷ xs) zero d e inside = refl
map_at f (x ∷ xs) (suc i) d e inside = map_at f xs i d e (omega (arith, inside))

-- how many are set
set_from : {X : Type 0} (f : X → Bool) (n : ℕ) (xs : List X)
    → fold (λ (a : ℕ) (set : Bool). a + cond set 1 0) n (map f xs) ≡ fold (λ (a : ℕ) (x : X). a + cond (f x) 1 0) n xs
set_from f n [] = refl
set_from f n (x ∷ xs) = set_from f (n + cond (f x) 1 0) xs

pub count_set : {X : Type 0} (f : X → Bool) (xs : List X) → count_by (λ (set : Bool). set) (map f xs) ≡ count_by f xs
count_set f xs = set_from f 0 xs

-- none is
pub none_set : {X : Type 0} (xs : List X) → replicate (length xs) false ≡ map (λ _. false) xs
none_set [] = refl
none_set (x ∷ xs) = ap (λ (rest : List Bool). false ∷ rest) (none_set xs)
