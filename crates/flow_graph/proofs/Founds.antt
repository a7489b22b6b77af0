-- The executed locations, held as a set, are the definitions' list of numbers.
use Rattle.std.proofs.Common.{◌≡◌, ℕ, ◌+◌, ◌-◌, ◌<◌, ◌≤◌, Bool, true, false, eqb, List, [], ◌∷◌, ◌++◌, length, get_or}
use Rattle.std.proofs.Common.{take, map, Some, refl, ap, sym, ◌∙◌, subst, inl, inr, ◌⊎◌, arith}
use Rattle.std.specs.Prelude.{slice_get, Contains, if◌then◌else◌, ◌||◌, nat_lt, position, option_map}
use Rattle.std.specs.List.{list_any, AllByRecursion, IsDistinct}
use Rattle.std.proofs.lemmas.Bool.{eqb-true, eq-eqb}
use borrow.Author.Tests.{ltb-true, ltb-false}
use Rattle.std.proofs.lemmas.Bool.Decides.{eqb_tells}
use Rattle.std.proofs.lemmas.List.{length-map, map_more}
use Rattle.std.proofs.lemmas.List.Quantifiers.{position-Some}
use Rattle.std.proofs.lemmas.Map.Keys.{IsDistinct-head, IsDistinct-tail, IsDistinct-cons}
use Rattle.std.proofs.lemmas.Map.Steps.{length-le_from_distinct_below}
use Rattle.std.proofs.lemmas.Option.{slice_get-get_or, slice_get-map}
use Rattle.base_words.specs.declared.location.Location.{Location}
use Rattle.base_graphs.specs.Graph.{AreDifferent}
use Rattle.base_graphs.proofs.Lists.{contains_here, contains_there, contains_cases, contains_none}
use Rattle.flow_graph.specs.Executed.{with_new}

-- the numbers of locations
abbrev pub numbers : List Location → List ℕ
numbers locations = map (λ location. location.number) locations

eqb_turned : (a b : ℕ) → eqb a b ≡ eqb b a
eqb_turned a b = elim (eqb_tells a b) [
  | inl same ↦ same.0 ∙ sym (eq-eqb b a (sym same.1))
  | inr ne ↦ (elim (eqb_tells b a) [ inl other ↦ absurd (ne.1 (sym other.1)) | inr other ↦ ne.0 ∙ sym other.0 ])
]

-- the first of two tests failing, or not
both_ways : (a b c : Bool) → a ≡ b → (a || c) ≡ (b || c)
both_ways a b c e = ap (λ (x : Bool). x || c) e

module _ (eq : Location → Location → Bool) (law : (a b : Location) → eq a b ≡ eqb a.number b.number) where
  any_same : (k : Location) (ks : List Location)
      → list_any (eq k) ks ≡ list_any (λ place. eqb place k.number) (numbers ks)
  any_same k [] = refl
  any_same k (x ∷ ks) =
      both_ways (eq k x) (eqb x.number k.number) (list_any (eq k) ks) (law k x ∙ eqb_turned k.number x.number)
      ∙ ap (λ (b : Bool). eqb x.number k.number || b) (any_same k ks)

  numbers_push : (ks : List Location) (k : Location) → numbers (ks ++ k ∷ []) ≡ numbers ks ++ k.number ∷ []
  numbers_push [] k = refl
  numbers_push (x ∷ ks) k = ap (λ (ns : List ℕ). x.number ∷ ns) (numbers_push ks k)

  -- the numbers after a location is added
  pub numbers_added : (ks : List Location) (k : Location)
      → numbers (if list_any (eq k) ks then ks else ks ++ k ∷ []) ≡ with_new (numbers ks) (k.number ∷ [])
  numbers_added ks k = go (list_any (eq k) ks) (list_any (λ place. eqb place k.number) (numbers ks)) (any_same k ks)
    where
      go : (a b : Bool) → a ≡ b
          → numbers (if a then ks else ks ++ k ∷ []) ≡ (if b then numbers ks else numbers ks ++ k.number ∷ [])
      go true true e = refl
      go true false e = cc
      go false true e = cc
      go false false e = numbers_push ks k

  none_equal : (k : Location) (ks : List Location) → AllByRecursion (λ y. eq k y ≡ false) ks
      → ¬ Contains (numbers ks) k.number
  none_equal k [] apart there = contains_none k.number there
  none_equal k (x ∷ ks) apart there = elim (contains_cases x.number k.number (numbers ks) there) [
    | inl same ↦ clash (sym apart.0 ∙ law k x ∙ eq-eqb k.number x.number (sym same))
    | inr behind ↦ none_equal k ks apart.1 behind
  ]
    where
      clash : false ≡ true → ⊥
      clash e = cc

  -- no number stands twice
  pub numbers_different : (ks : List Location) → IsDistinct eq ks → AreDifferent (numbers ks)
  numbers_different [] d = tt
  numbers_different (k ∷ ks) d =
      (none_equal k ks (IsDistinct-head eq k ks d), numbers_different ks (IsDistinct-tail eq k ks d))

  -- a location that isn't found has no place
  pub none_found : (ks : List Location) (k : Location) → list_any (eq k) ks ≡ false → ¬ Contains (numbers ks) k.number
  none_found [] k none there = contains_none k.number there
  none_found (x ∷ ks) k none there = go (eq k x) refl none (λ more. none_found ks k more)
    where
      go : (b : Bool) → eq k x ≡ b → (b || list_any (eq k) ks) ≡ false
          → (list_any (eq k) ks ≡ false → ¬ Contains (numbers ks) k.number) → ⊥
      go true e none others = cc
      go false e none others = elim (contains_cases x.number k.number (numbers ks) there) [
        | inl same ↦ clash (sym e ∙ law k x ∙ eq-eqb k.number x.number (sym same))
        | inr behind ↦ others none behind
      ]
        where
          clash : false ≡ true → ⊥
          clash h = cc

  -- one that is found has its place
  pub one_found : (ks : List Location) (k : Location) (place : ℕ) → position (eq k) ks ≡ Some place
      → slice_get (numbers ks) place ≡ Some k.number
  one_found ks k place e =
      let found = position-Some (eq k) ks place k e in
      let same : k.number ≡ (get_or ks place k).number =
      eqb-true k.number (get_or ks place k).number (sym (law k (get_or ks place k)) ∙ found.1) in
      slice_get-map (λ (location : Location). location.number) ks place
      ∙ ap (option_map (λ (location : Location). location.number)) (slice_get-get_or ks place k found.0)
      ∙ ap Some (sym same)

-- the locations in one row: the drum, and then 8000 to 8003
abbrev slot_by : Bool → ℕ → ℕ
slot_by true n = n
slot_by false n = n - 6000

abbrev slot : ℕ → ℕ
slot n = slot_by (nat_lt n 2000) n

abbrev slots : List Location → List ℕ
slots locations = map (λ location. slot location.number) locations

slot_cases : (n : ℕ) → ((n < 2000) × (slot n ≡ n)) ⊎ ((2000 ≤ n) × (slot n ≡ n - 6000))
slot_cases n = go (nat_lt n 2000) refl
  where
    go : (b : Bool) → nat_lt n 2000 ≡ b → ((n < 2000) × (slot n ≡ n)) ⊎ ((2000 ≤ n) × (slot n ≡ n - 6000))
    go true e = inl (ltb-true n 2000 e, ap (λ (b : Bool). slot_by b n) e)
    go false e = inr (ltb-false n 2000 e, ap (λ (b : Bool). slot_by b n) e)

slot_below : (k : Location) → slot k.number < 2004
slot_below k =
    elim (slot_cases k.number)
    [ inl low ↦ omega (arith, low.0, low.1) | inr high ↦ omega (arith, high.0, high.1, k.exists.0, k.exists.1 high.0) ]

same_slot : (a b : Location) → slot a.number ≡ slot b.number → a.number ≡ b.number
same_slot a b e = elim (slot_cases a.number) [
  | inl low ↦ (elim (slot_cases b.number) [
    | inl other ↦ omega (arith, e, low.1, other.1)
    | inr other ↦ absurd (omega (arith, e, low.0, low.1, other.1, b.exists.1 other.0))
  ])
  | inr high ↦ (elim (slot_cases b.number) [
    | inl other ↦ absurd (omega (arith, e, high.1, other.0, other.1, a.exists.1 high.0))
    | inr other ↦ omega (arith, e, high.1, other.1, a.exists.1 high.0, b.exists.1 other.0)
  ])
]

slots_apart : (k : Location) (ks : List Location) → ¬ Contains (numbers ks) k.number
    → AllByRecursion (λ s. eqb (slot k.number) s ≡ false) (slots ks)
slots_apart k [] apart = tt
slots_apart k (x ∷ ks) apart = (
  elim (eqb_tells (slot k.number) (slot x.number)) [
    | inl same ↦ absurd (apart
        (subst (λ (n : ℕ). Contains (x.number ∷ numbers ks) n) (sym (same_slot k x same.1))
        (contains_here x.number (numbers ks))))
    | inr ne ↦ ne.0
  ],
  slots_apart k ks (λ there. apart (contains_there x.number k.number (numbers ks) there)),
)

slots_distinct : (ks : List Location) → AreDifferent (numbers ks) → IsDistinct eqb (slots ks)
unfolding IsDistinct
slots_distinct [] d = tt
slots_distinct (k ∷ ks) d =
    IsDistinct-cons eqb (slot k.number) (slots ks) (slots_apart k ks d.0) (slots_distinct ks d.1)

slots_below : (ks : List Location) (q : ℕ) → list_any (eqb q) (slots ks) ≡ true → q < 2004
slots_below [] q e = cc
slots_below (k ∷ ks) q e = go (eqb q (slot k.number)) refl e (slots_below ks q)
  where
    go : (b : Bool) → eqb q (slot k.number) ≡ b → (b || list_any (eqb q) (slots ks)) ≡ true
        → (list_any (eqb q) (slots ks) ≡ true → q < 2004) → q < 2004
    go true same h others = omega (arith, slot_below k, eqb-true q (slot k.number) same)
    go false ne h others = others h

-- different numbers below another one are no more than that
some_apart : (k : ℕ) (ks : List ℕ) → ¬ Contains ks k → AllByRecursion (λ s. eqb k s ≡ false) ks
some_apart k [] apart = tt
some_apart k (x ∷ ks) apart = (
  elim (eqb_tells k x) [
    | inl same ↦ absurd (apart (subst (λ (n : ℕ). Contains (x ∷ ks) n) (sym same.1) (contains_here x ks)))
    | inr ne ↦ ne.0
  ],
  some_apart k ks (λ there. apart (contains_there x k ks there)),
)

distinct_from : (ks : List ℕ) → AreDifferent ks → IsDistinct eqb ks
unfolding IsDistinct
distinct_from [] d = tt
distinct_from (k ∷ ks) d = IsDistinct-cons eqb k ks (some_apart k ks d.0) (distinct_from ks d.1)

all_below : (ks : List ℕ) (n q : ℕ) → ((k : ℕ) → Contains ks k → k < n) → list_any (eqb q) ks ≡ true → q < n
all_below [] n q inside e = cc
all_below (k ∷ ks) n q inside e =
    go (eqb q k) refl e (all_below ks n q (λ one there. inside one (contains_there k one ks there)))
  where
    go : (b : Bool) → eqb q k ≡ b → (b || list_any (eqb q) ks) ≡ true → (list_any (eqb q) ks ≡ true → q < n) → q < n
    go true same h others = omega (arith, inside k (contains_here k ks), eqb-true q k same)
    go false ne h others = others h

pub few_below : (ks : List ℕ) (n : ℕ) → AreDifferent ks → ((k : ℕ) → Contains ks k → k < n) → length ks ≤ n
few_below ks n d inside = length-le_from_distinct_below ks n (distinct_from ks d) (λ q. all_below ks n q inside)

-- there are no more than 2004 locations
pub few_locations : (ks : List Location) → AreDifferent (numbers ks) → length (numbers ks) ≤ 2004
few_locations ks d =
    omega (
      arith,
      length-le_from_distinct_below (slots ks) 2004 (slots_distinct ks d) (slots_below ks),
      length-map ks (λ (location : Location). slot location.number),
      length-map ks (λ (location : Location). location.number),
    )

-- the numbers so far and this one
pub numbers_more : (locations : List Location) (place : ℕ) (location : Location) → place < length locations
    → location ≡ get_or locations place location
    → numbers (take (place + 1) locations) ≡ numbers (take place locations) ++ location.number ∷ []
numbers_more locations place location inside here =
    map_more (λ (one : Location). one.number) locations place location inside
    ∙ ap (λ (one : Location). numbers (take place locations) ++ one.number ∷ []) (sym here)

-- the member of a list of locations at a place, by its number
pub number_at : (locations : List Location) (places : List ℕ) (k : ℕ) (location : Location) → numbers locations ≡ places
    → k < length locations
    → location ≡ get_or locations k location → slice_get places k ≡ Some location.number
number_at locations places k location same inside here =
    sym (ap (λ (ns : List ℕ). slice_get ns k) same) ∙ slice_get-map (λ (one : Location). one.number) locations k
    ∙ ap (option_map (λ (one : Location). one.number)) (slice_get-get_or locations k location inside)
    ∙ ap (λ (one : Location). Some one.number) (sym here)
