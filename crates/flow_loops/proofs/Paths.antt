-- Paths, each of whose nodes has an edge to the next: edges lead from each node to the last.
use Rattle.std.proofs.Common.{◌≡◌, ℕ, suc, ◌-◌, List, [], ◌∷◌, ◌++◌, length, Some, refl, ap, sym, ◌∙◌, subst, inl, inr}
use Rattle.std.proofs.Common.{arith}
use Rattle.std.specs.Prelude.{slice_get, Contains}
use Rattle.base_graphs.specs.Search.{LeadAlong, AreLinked, last_of}
use Rattle.base_graphs.proofs.Lists.{contains_here, contains_cases, contains_none}
use Rattle.flow_loops.specs.Loops.{LeadsTo}
use Rattle.flow_loops.specs.Arranged.{IsBefore, GoesOn}

last_cons : (a b : ℕ) (bs : List ℕ) → last_of (a ∷ b ∷ bs) ≡ last_of (b ∷ bs)
last_cons a b bs =
    let more : length (a ∷ b ∷ bs) - 1 ≡ suc (length bs) = omega arith in
    let less : length (b ∷ bs) - 1 ≡ length bs = omega arith in
    ap (slice_get (a ∷ b ∷ bs)) more ∙ sym (ap (slice_get (b ∷ bs)) less)

along_push : (row : ℕ → List ℕ) (node : ℕ) (xs : List ℕ) (y : ℕ) → LeadAlong row node xs
    → ((last : ℕ) → last_of (node ∷ xs) ≡ Some last → Contains (row last) y) → LeadAlong row node (xs ++ y ∷ [])
along_push row node [] y along edge = (edge node refl, tt)
along_push row node (b ∷ bs) y along edge =
    (along.0, along_push row b bs y along.1 (λ last e. edge last (last_cons node b bs ∙ e)))

-- a path with one more node
pub linked_push : (row : ℕ → List ℕ) (xs : List ℕ) (y : ℕ) → AreLinked row xs
    → ((last : ℕ) → last_of xs ≡ Some last → Contains (row last) y) → AreLinked row (xs ++ y ∷ [])
linked_push row [] y linked edge = tt
linked_push row (a ∷ xs) y linked edge = along_push row a xs y linked edge

along_prefix : (row : ℕ → List ℕ) (node : ℕ) (xs : List ℕ) (y : ℕ) → LeadAlong row node (xs ++ y ∷ [])
    → LeadAlong row node xs
along_prefix row node [] y along = tt
along_prefix row node (b ∷ bs) y along = (along.0, along_prefix row b bs y along.1)

-- and with one less
pub linked_prefix : (row : ℕ → List ℕ) (xs : List ℕ) (y : ℕ) → AreLinked row (xs ++ y ∷ []) → AreLinked row xs
linked_prefix row [] y linked = tt
linked_prefix row (a ∷ xs) y linked = along_prefix row a xs y linked

module _ (row : ℕ → List ℕ) (order : List ℕ) (node : ℕ) where
  leads_end : (x : ℕ) (xs : List ℕ) → LeadAlong row x xs → ((a b : ℕ) → IsBefore (x ∷ xs) a b → IsBefore order a b)
      → last_of (x ∷ xs) ≡ Some node → LeadsTo (GoesOn row order) x node
  leads_end x [] along before last =
      let same : x ≡ node = cc in
      ([], same)
  leads_end x (y ∷ ys) along before last =
      let rest : LeadsTo (GoesOn row order) y node =
      leads_end y ys along.1 (λ a b h. before a b (inr h)) (sym (last_cons x y ys) ∙ last) in
      (y ∷ rest.0, ((along.0, before x y (inl (refl, contains_here y ys))), rest.1))

  leads_from : (x : ℕ) (xs : List ℕ) (next : ℕ) → LeadAlong row x xs
      → ((a b : ℕ) → IsBefore (x ∷ xs) a b → IsBefore order a b)
      → last_of (x ∷ xs) ≡ Some node → Contains (x ∷ xs) next → LeadsTo (GoesOn row order) next node
  leads_from x [] next along before last there = elim (contains_cases x next [] there) [
    | inl same ↦ subst (λ (n : ℕ). LeadsTo (GoesOn row order) n node) same (leads_end x [] along before last)
    | inr none ↦ absurd (contains_none next none)
  ]
  leads_from x (y ∷ ys) next along before last there = elim (contains_cases x next (y ∷ ys) there) [
    | inl same ↦ subst (λ (n : ℕ). LeadsTo (GoesOn row order) n node) same (leads_end x (y ∷ ys) along before last)
    | inr behind ↦ leads_from y ys next along.1 (λ a b h. before a b (inr h)) (sym (last_cons x y ys) ∙ last) behind
  ]

  -- where an order keeps the path's, edges that go on lead from each of the path's nodes to the last
  pub path_leads : (path : List ℕ) (next : ℕ) → AreLinked row path → ((a b : ℕ) → IsBefore path a b → IsBefore order a b)
      → last_of path ≡ Some node → Contains path next → LeadsTo (GoesOn row order) next node
  path_leads [] next linked before last there = absurd (contains_none next there)
  path_leads (x ∷ xs) next linked before last there = leads_from x xs next linked before last there
