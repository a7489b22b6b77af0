-- What stands before what in a list, also once a member is put into it.
use Rattle.std.proofs.Common.{◌≡◌, ℕ, suc, ◌<◌, List, [], ◌∷◌, ◌++◌, Some, ap, sym, subst, inl, inr, ◌⊎◌, arith}
use Rattle.std.specs.Prelude.{slice_get, Contains}
use Rattle.std.proofs.lemmas.List.Elements.{Contains-append_left, Contains-append_right, Contains-append_cases}
use Rattle.std.proofs.lemmas.List.Elements.{Contains-push, Contains-push_cases}
use Rattle.base_graphs.specs.Graph.{AreDifferent}
use Rattle.base_graphs.proofs.Lists.{contains_here, contains_there, contains_at}
use Rattle.flow_loops.specs.Loops.{LeadBy}
use Rattle.flow_loops.specs.Arranged.{IsBefore, GoesOn, IsPlaced}

-- what stands before what in a part does so in the whole
pub before_right : (xs ys : List ℕ) (a b : ℕ) → IsBefore ys a b → IsBefore (xs ++ ys) a b
before_right [] ys a b h = h
before_right (x ∷ xs) ys a b h = inr (before_right xs ys a b h)

pub before_left : (xs ys : List ℕ) (a b : ℕ) → IsBefore xs a b → IsBefore (xs ++ ys) a b
before_left [] ys a b h = absurd h
before_left (x ∷ xs) ys a b h = elim h [
  | inl here ↦ inl (here.0, Contains-append_left xs ys b here.1)
  | inr later ↦ inr (before_left xs ys a b later)
]

-- they have places
pub before_places : (xs : List ℕ) (a b : ℕ) → IsBefore xs a b
    → (i : ℕ) × (j : ℕ) × (i < j) × (slice_get xs i ≡ Some a) × (slice_get xs j ≡ Some b)
before_places [] a b h = absurd h
before_places (x ∷ xs) a b h = elim h [
  | inl here ↦ (let later : (k : ℕ) × (slice_get xs k ≡ Some b) =
      contains_at xs b here.1 in (0, suc later.0, omega arith, ap Some here.0, later.1))
  | inr more ↦ (let rest = before_places xs a b more in
      (suc rest.0, suc rest.1, omega (arith, rest.2), rest.3, rest.4))
]

-- a member put into a list
pub contains_inserted : (xs ys : List ℕ) (y b : ℕ) → Contains (xs ++ ys) b → Contains ((xs ++ y ∷ []) ++ ys) b
contains_inserted xs ys y b there = elim (Contains-append_cases xs ys b there) [
  | inl left ↦ Contains-append_left (xs ++ y ∷ []) ys b (Contains-append_left xs (y ∷ []) b left)
  | inr right ↦ Contains-append_right (xs ++ y ∷ []) ys b right
]

pub contains_it : (xs ys : List ℕ) (y : ℕ) → Contains ((xs ++ y ∷ []) ++ ys) y
contains_it xs ys y = Contains-append_left (xs ++ y ∷ []) ys y (Contains-push xs y)

pub inserted_cases : (xs ys : List ℕ) (y b : ℕ) → Contains ((xs ++ y ∷ []) ++ ys) b → (y ≡ b) ⊎ Contains (xs ++ ys) b
inserted_cases xs ys y b there = elim (Contains-append_cases (xs ++ y ∷ []) ys b there) [
  | inl left ↦ (elim (Contains-push_cases xs y b left)
      [ inl earlier ↦ inr (Contains-append_left xs ys b earlier) | inr same ↦ inl same ])
  | inr right ↦ inr (Contains-append_right xs ys b right)
]

pub before_inserted : (xs ys : List ℕ) (y a b : ℕ) → IsBefore (xs ++ ys) a b → IsBefore ((xs ++ y ∷ []) ++ ys) a b
before_inserted [] ys y a b h = inr h
before_inserted (x ∷ xs) ys y a b h = elim h [
  | inl here ↦ inl (here.0, contains_inserted xs ys y b here.1)
  | inr later ↦ inr (before_inserted xs ys y a b later)
]

pub distinct_inserted : (xs ys : List ℕ) (y : ℕ) → AreDifferent (xs ++ ys) → ¬ Contains (xs ++ ys) y
    → AreDifferent ((xs ++ y ∷ []) ++ ys)
distinct_inserted [] ys y d new = (new, d)
distinct_inserted (x ∷ xs) ys y d new = (
  λ there. elim (inserted_cases xs ys y x there) [
    | inl same ↦ new (subst (λ (z : ℕ). Contains (x ∷ (xs ++ ys)) z) (sym same) (contains_here x (xs ++ ys)))
    | inr was ↦ d.0 was
  ],
  distinct_inserted xs ys y d.1 (λ there. new (contains_there x y (xs ++ ys) there)),
)

-- edges of one kind that lead somewhere are edges of a wider kind that do
pub leads_weaker : (E F : ℕ → ℕ → Type 0) → ((a b : ℕ) → E a b → F a b) → (node : ℕ) (through : List ℕ) (last : ℕ)
    → LeadBy E node through last → LeadBy F node through last
leads_weaker E F weaker node [] last lead = lead
leads_weaker E F weaker node (next ∷ nexts) last lead =
    (weaker node next lead.0, leads_weaker E F weaker next nexts last lead.1)

-- an edge that is placed stays so in an order that keeps what stands before what
pub placed_more : (row : ℕ → List ℕ) (order more : List ℕ) → ((a b : ℕ) → IsBefore order a b → IsBefore more a b)
    → (node next : ℕ) → IsPlaced row order node next → IsPlaced row more node next
placed_more row order more keeps node next placed = elim placed [
  | inl before ↦ inl (keeps node next before)
  | inr lead ↦ inr (
    lead.0,
    leads_weaker (GoesOn row order) (GoesOn row more)
        (λ a b on. (on.0, keeps a b on.1)) next lead.0 node lead.1,
  )
]
