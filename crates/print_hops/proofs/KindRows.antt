-- A map's rows by kind: which kind is where, and that they are sorted.
use Rattle.std.proofs.Common.{◌≡◌, ℕ, zero, suc, ◌+◌, ◌-◌, ◌<◌, ◌≤◌, ◌⊎◌, inl, inr, Bool, true, false, cond, List, [], ◌∷◌, length}
use Rattle.std.proofs.Common.{get_or, refl, ap, sym, ◌∙◌, subst, arith, Some, is_lt, nat_cmp}
use Rattle.std.proofs.Common.{◌==◌, Less, Equal, Greater, nat_lt, ltb-false, eqb-true, eq-eqb}
use Rattle.std.proofs.lemmas.Bool.{cases_lt}
use Rattle.std.proofs.lemmas.Map.Keys.{apart_from_distinct}
use Rattle.std.proofs.lemmas.Option.{get_or_from_slice_get, slice_get-map, slice_get_within}
use Rattle.std.specs.Map.{keys_of, values_of}
use Rattle.std.specs.Ordering.{ordering_then}
use Rattle.std.specs.Prelude.{Contains, option_map, slice_get}
use Rattle.indexmap.specs.IndexMap.{IndexMap, IsUnique}
use Rattle.base_graphs.proofs.Lists.{contains_from_get}
use Rattle.print_hops.specs.declared.kind.Kind.{Kind}
use Rattle.print_hops.specs.KindsOf.{same_kind}
use Rattle.print_hops.proofs.SameKinds.{same_kind_equiv}

-- ---- the entry of a row

module _ {X : Type 0} where
  -- an entry with a row of its values
  pub entry_of : (pairs : List (Kind × X)) (i : ℕ) (row : X) → slice_get (values_of pairs) i ≡ Some row
      → (key : Kind) × (slice_get pairs i ≡ Some (key, row))
  entry_of [] i row at = absurd (cc)
  entry_of (pair ∷ pairs) zero row at =
      let same : pair.1 ≡ row = cc in
      (pair.0, ap (λ (r : X). Some (pair.0, r)) same)
  entry_of (pair ∷ pairs) (suc i) row at = entry_of pairs i row at

  -- the key of an entry, at its place
  pub key_at : (pairs : List (Kind × X)) (i : ℕ) (key : Kind) (row : X) → slice_get pairs i ≡ Some (key, row)
      → slice_get (keys_of pairs) i ≡ Some key
  key_at pairs i key row at =
      slice_get-map (λ (e : Kind × X). e.0) pairs i
      ∙ ap (option_map (λ (e : Kind × X). e.0)) at

clash : true ≡ false → ⊥
clash e = cc

module _ {X S : Type 0} (rows : IndexMap Kind X S) (apart : IsUnique same_kind rows) where
  unlike : (i j : ℕ) (a b : Kind) → i < j → slice_get (keys_of rows.entries) i ≡ Some a
      → slice_get (keys_of rows.entries) j ≡ Some b → same_kind a b ≡ false
  unlike i j a b less p q =
      sym (ap (λ (k : Kind). same_kind k b) (get_or_from_slice_get (keys_of rows.entries) i a a p))
      ∙ sym (ap (λ (k : Kind). same_kind (get_or (keys_of rows.entries) i a) k)
      (get_or_from_slice_get (keys_of rows.entries) j b a q))
      ∙ apart_from_distinct same_kind (keys_of rows.entries) i j a apart less
      (slice_get_within (keys_of rows.entries) j b q)

  -- entries of one kind are one
  pub one_place : (i j : ℕ) (a b : Kind) → slice_get (keys_of rows.entries) i ≡ Some a
      → slice_get (keys_of rows.entries) j ≡ Some b → same_kind a b ≡ true → i ≡ j
  one_place i j a b p q so = elim (cases_lt i j) [
    | inl less ↦ absurd (clash (sym so ∙ unlike i j a b less p q))
    | inr other ↦
        elim (cases_lt j i) [
          | inl less ↦
              absurd (clash (sym (same_kind_equiv.symm b a ∙ so) ∙ unlike j i b a less q p))
          | inr same ↦ omega (arith, other, same)
        ]
  ]

-- ---- the order in which they are sorted

pub not_below : (a a' b b' : ℕ) → is_lt (ordering_then (nat_cmp a a') (nat_cmp b b')) ≡ false
    → (a' < a) ⊎ ((a ≡ a') × (b' ≤ b))
not_below a a' b b' = go (nat_lt a a') (a == a') (nat_lt b b') (b == b') refl refl refl
  where
    go : (p q r s : Bool) → nat_lt a a' ≡ p → (a == a') ≡ q → nat_lt b b' ≡ r
        → is_lt (ordering_then (cond p Less (cond q Equal Greater)) (cond r Less (cond s Equal Greater)))
        ≡ false
        → (a' < a) ⊎ ((a ≡ a') × (b' ≤ b))
    go true q r s less same below so = absurd (cc)
    go false true true s less same below so = absurd (cc)
    go false true false s less same below so = inr (eqb-true a a' same, ltb-false b b' below)
    go false false r s less same below so = elim (cases_lt a' a) [
      | inl greater ↦ inl greater
      | inr other ↦
          let equal : a ≡ a' = omega (arith, other, ltb-false a a' less) in
          absurd (clash (sym (sym same ∙ eq-eqb a a' equal)))
    ]

module _ {X : Type 0} (time first : X → ℕ) where
  -- the one takes longer, or as long and comes first
  abbrev pub IsDearer : X → X → Type 0
  IsDearer a b = (time b < time a) ⊎ ((time a ≡ time b) × (first a ≤ first b))

  abbrev pub AreDearest : List X → Type 0
  AreDearest rows = (k : ℕ) (a b : X) → slice_get rows k ≡ Some a → slice_get rows (suc k) ≡ Some b
      → IsDearer a b

  -- what the sort sorts by
  abbrev pub sort_key : Kind × X → ℕ × ℕ
  sort_key entry = (340282366920938463463374607431768211455 - time entry.1, first entry.1)

  pub dearest_sorted : (entries : List (Kind × X))
      → ((row : X) → Contains (values_of entries) row → time row ≤ 340282366920938463463374607431768211455)
      → ((k : ℕ) (d : Kind × X) → 0 ≤ k → k + 1 < length entries
      → is_lt (ordering_then
      (nat_cmp (sort_key (get_or entries (k + 1) d)).0 (sort_key (get_or entries k d)).0)
      (nat_cmp (sort_key (get_or entries (k + 1) d)).1 (sort_key (get_or entries k d)).1)) ≡ false)
      → AreDearest (values_of entries)
  dearest_sorted entries short sorted k a b p q =
      let before = entry_of entries k a p in
      let behind = entry_of entries (suc k) b q in
      let one : Kind × X = (before.0, a) in
      let other : Kind × X = (behind.0, b) in
      let here : get_or entries k one ≡ one = get_or_from_slice_get entries k one one before.1 in
      let next : suc k ≡ k + 1 = omega arith in
      let there : get_or entries (k + 1) one ≡ other =
      ap (λ (n : ℕ). get_or entries n one) (sym next)
      ∙ get_or_from_slice_get entries (suc k) other one behind.1 in
      let within : k + 1 < length entries = omega (arith, slice_get_within entries (suc k) other behind.1) in
      let so : is_lt (ordering_then (nat_cmp (sort_key other).0 (sort_key one).0)
      (nat_cmp (sort_key other).1 (sort_key one).1)) ≡ false =
      subst (λ (x : Kind × X). is_lt (ordering_then (nat_cmp (sort_key other).0 (sort_key x).0)
      (nat_cmp (sort_key other).1 (sort_key x).1)) ≡ false) here
      (subst (λ (x : Kind × X). is_lt (ordering_then
      (nat_cmp (sort_key x).0 (sort_key (get_or entries k one)).0)
      (nat_cmp (sort_key x).1 (sort_key (get_or entries k one)).1)) ≡ false) there
      (sorted k one (omega arith) within)) in
      let low : time a ≤ 340282366920938463463374607431768211455 = short a (contains_from_get (values_of entries) k a p) in
      let low_too : time b ≤ 340282366920938463463374607431768211455 =
      short b (contains_from_get (values_of entries) (suc k) b q) in
      elim (not_below (sort_key other).0 (sort_key one).0 (sort_key other).1 (sort_key one).1 so) [
        | inl less ↦ inl (omega (arith, less, low, low_too))
        | inr same ↦ inr (omega (arith, same.0, low, low_too), same.1)
      ]
