-- Those of a list that have a property, and the marks that don't say inside which other they stand.
use Rattle.std.proofs.Common.{◌≡◌, ℕ, zero, suc, ◌+◌, List, ◌∷◌, ◌++◌, map, refl, ap, sym, ◌∙◌, subst, inl, inr, []}
use Rattle.std.proofs.Common.{arith}
use Rattle.std.specs.Prelude.{flat_map}
use Rattle.std.specs.List.{range_with_len}
use Rattle.std.proofs.lemmas.List.{append_assoc}
use Rattle.check_deck.specs.Those.{AreThose}

-- one that has it, and one that hasn't
pub one_in : {X : Type 0} (P : X → Type 0) (x : X) → P x → AreThose P (x ∷ []) (x ∷ [])
one_in P x is = inl (is, ([], refl, refl))

pub one_out : {X : Type 0} (P : X → Type 0) (x : X) → ¬ P x → AreThose P (x ∷ []) []
one_out P x not = inr (not, refl)

-- of a list none has it
pub those_none : {X Y : Type 0} (P : X → Type 0) (f : Y → X) (ys : List Y) → ((y : Y) → ¬ P (f y))
    → AreThose P (map f ys) []
those_none P f [] not = refl
those_none P f (y ∷ ys) not = inr (not y, those_none P f ys not)

pub those_nothing : {X : Type 0} (P : X → Type 0) (xs : List X) → ((x : X) → ¬ P x) → AreThose P xs []
those_nothing P [] not = refl
those_nothing P (x ∷ xs) not = inr (not x, those_nothing P xs not)

-- those of two lists, one behind the other
pub those_append : {X : Type 0} (P : X → Type 0) (xs ys ones bs : List X) → AreThose P xs ones → AreThose P ys bs
    → AreThose P (xs ++ ys) (ones ++ bs)
those_append {X} P [] ys ones bs first second =
    subst (λ (none : List X). AreThose P ys (none ++ bs)) (sym first) second
those_append {X} P (x ∷ xs) ys ones bs (inl here) second = inl (
  here.0,
  (here.1.0 ++ bs, ap (λ (all : List X). all ++ bs) here.1.1, those_append P xs ys here.1.0 bs here.1.2 second),
)
those_append P (x ∷ xs) ys ones bs (inr here) second = inr (here.0, those_append P xs ys ones bs here.1 second)

-- there is one list of those
pub those_one : {X : Type 0} (P : X → Type 0) (xs ones bs : List X) → AreThose P xs ones → AreThose P xs bs → ones ≡ bs
those_one P [] ones bs first second = first ∙ sym second
those_one {X} P (x ∷ xs) ones bs (inl one) (inl other) =
    one.1.1 ∙ ap (λ (all : List X). x ∷ all) (those_one P xs one.1.0 other.1.0 one.1.2 other.1.2) ∙ sym other.1.1
those_one P (x ∷ xs) ones bs (inl one) (inr other) = absurd (other.0 one.0)
those_one P (x ∷ xs) ones bs (inr one) (inl other) = absurd (one.0 other.0)
those_one P (x ∷ xs) ones bs (inr one) (inr other) = those_one P xs ones bs one.1 other.1

-- a range that is one longer
range_push : (a n : ℕ) → range_with_len a (suc n) ≡ range_with_len a n ++ (a + n) ∷ []
range_push a zero =
    let here : a ≡ a + 0 = omega arith in
    ap (λ (k : ℕ). k ∷ []) here
range_push a (suc n) =
    let here : a + 1 + n ≡ a + suc n = omega arith in
    ap (λ (ks : List ℕ). a ∷ ks) (range_push (a + 1) n ∙ ap (λ (k : ℕ). range_with_len (a + 1) n ++ k ∷ []) here)

places_push : (n : ℕ) → range_with_len 0 (n + 1) ≡ range_with_len 0 n ++ n ∷ []
places_push n =
    let more : n + 1 ≡ suc n = omega arith in
    let last : 0 + n ≡ n = omega arith in
    ap (range_with_len 0) more ∙ range_push 0 n ∙ ap (λ (k : ℕ). range_with_len 0 n ++ k ∷ []) last

map_more : {X Y : Type 0} (f : X → Y) (xs ys : List X) → map f (xs ++ ys) ≡ map f xs ++ map f ys
map_more f [] ys = refl
map_more {X} {Y} f (x ∷ xs) ys = ap (λ (all : List Y). f x ∷ all) (map_more f xs ys)

flat_more : {X Y : Type 0} (f : X → List Y) (xs : List X) (y : X) → flat_map f (xs ++ y ∷ []) ≡ flat_map f xs ++ f y
flat_more f [] y = append_none (f y)
  where
    append_none : {Y : Type 0} (zs : List Y) → zs ++ [] ≡ zs
    append_none [] = refl
    append_none {Y} (z ∷ zs) = ap (λ (all : List Y). z ∷ all) (append_none zs)
flat_more {X} {Y} f (x ∷ xs) y =
    ap (λ (all : List Y). f x ++ all) (flat_more f xs y) ∙ sym (append_assoc (f x) (flat_map f xs) (f y))

-- So far: those of a list are what was added.
pub record AreAdded {X F : Type 0} (P : X → Type 0) (told : X → F) (xs : List X) (before after : List F) : Type 0 where
  pub those : List X
  pub are : AreThose P xs those
  pub added : after ≡ before ++ map told those

module _ {X F : Type 0} (P : X → Type 0) (told : X → F) where
  pub added_also : (xs ys : List X) (before between after : List F) → AreAdded P told xs before between
      → AreAdded P told ys between after → AreAdded P told (xs ++ ys) before after
  added_also xs ys before between after first second = record {
    those = first.those ++ second.those;
    are = those_append P xs ys first.those second.those first.are second.are;
    added =
        second.added ∙ ap (λ (all : List F). all ++ map told second.those) first.added
        ∙ append_assoc before (map told first.those) (map told second.those)
        ∙ ap (λ (all : List F). before ++ all) (sym (map_more told first.those second.those));
  }

-- the pairs of a place with the first places, and those of the first places with all
abbrev pub row_of : ℕ → ℕ → List (ℕ × ℕ)
row_of inner count = map (λ (outer : ℕ). (inner, outer)) (range_with_len 0 count)

row_push : (inner k : ℕ) → row_of inner (k + 1) ≡ row_of inner k ++ (inner, k) ∷ []
row_push inner k =
    ap (map {A = ℕ} {B = ℕ × ℕ} (λ outer. (inner, outer))) (places_push k)
    ∙ map_more {X = ℕ} {Y = ℕ × ℕ} (λ outer. (inner, outer)) (range_with_len 0 k) (k ∷ [])

append_none : {X : Type 0} (xs : List X) → xs ++ [] ≡ xs
append_none [] = refl
append_none {X} (x ∷ xs) = ap (λ (all : List X). x ∷ all) (append_none xs)

module _ {F : Type 0} (P : ℕ × ℕ → Type 0) (told : ℕ × ℕ → F) where
  -- one more place of a row, whose pair hasn't the property or has it
  pub pair_out : (inner k : ℕ) (before now : List F) → AreAdded P told (row_of inner k) before now → ¬ P (inner, k)
      → AreAdded P told (row_of inner (k + 1)) before now
  pair_out inner k before now so_far not =
      subst (λ (pairs : List (ℕ × ℕ)). AreAdded P told pairs before now) (sym (row_push inner k))
      (added_also P told (row_of inner k) ((inner, k) ∷ []) before now now so_far
      (record { those = []; are = one_out P (inner, k) not; added = sym (append_none now) }))

  pub pair_in : (inner k : ℕ) (before now after : List F) → AreAdded P told (row_of inner k) before now → P (inner, k)
      → after ≡ now ++ told (inner, k) ∷ [] → AreAdded P told (row_of inner (k + 1)) before after
  pair_in inner k before now after so_far is grown =
      subst (λ (pairs : List (ℕ × ℕ)). AreAdded P told pairs before after) (sym (row_push inner k))
      (added_also P told (row_of inner k) ((inner, k) ∷ []) before now after so_far
      (record { those = (inner, k) ∷ []; are = one_in P (inner, k) is; added = grown }))

  -- one more row
  pub row_in : (row : ℕ → List (ℕ × ℕ)) (k : ℕ) (before now after : List F)
      → AreAdded P told (flat_map row (range_with_len 0 k)) before now → AreAdded P told (row k) now after
      → AreAdded P told (flat_map row (range_with_len 0 (k + 1))) before after
  row_in row k before now after so_far more =
      subst (λ (pairs : List (ℕ × ℕ)). AreAdded P told pairs before after)
      (sym (ap (flat_map row) (places_push k) ∙ flat_more row (range_with_len 0 k) k))
      (added_also P told (flat_map row (range_with_len 0 k)) (row k) before now after so_far more)
