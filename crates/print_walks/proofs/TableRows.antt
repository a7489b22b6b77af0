-- Entries that are sorted by location and counts are the table, in order.
use Rattle.std.proofs.Common.{◌≡◌, ℕ, zero, suc, ◌+◌, ◌<◌, ◌≤◌, inl, inr, false, List, [], ◌∷◌, length, get_or, map}
use Rattle.std.proofs.Common.{Some, refl, ap, sym, ◌∙◌, subst, arith, is_lt, nat_cmp}
use Rattle.std.proofs.lemmas.List.Sorted.{IsPermutation-map}
use Rattle.std.proofs.lemmas.Option.{get_or_from_slice_get, slice_get_within}
use Rattle.std.specs.Ordering.{ordering_then}
use Rattle.std.specs.Prelude.{slice_get}
use Rattle.std.specs.List.Sorted.{IsPermutation}
use Rattle.bound_scan.specs.declared.worst.Worst.{Worst}
use Rattle.bound_scan.specs.RowOf.{row_in}
use Rattle.bound_scan.specs.Table.{Row}
use Rattle.print_hops.proofs.KindRows.{not_below}
use Rattle.print_walks.specs.TableText.{AreInOrder, ComesBefore}

-- what the sort sorts by
abbrev pub sort_key : Worst → ℕ × ℕ
sort_key row = (row.place.number, row.counts)

-- no entry has a lower key than the one before it
abbrev pub AreSorted : List Worst → Type 0
AreSorted rows = (k : ℕ) (d : Worst) → 0 ≤ k → k + 1 < length rows
    → is_lt (ordering_then
    (nat_cmp (sort_key (get_or rows (k + 1) d)).0 (sort_key (get_or rows k d)).0)
    (nat_cmp (sort_key (get_or rows (k + 1) d)).1 (sort_key (get_or rows k d)).1)) ≡ false

-- an entry as the code has it
entry_at : (rows : List Worst) (i : ℕ) (row : Row) → slice_get (map row_in rows) i ≡ Some row
    → (worst : Worst) × (slice_get rows i ≡ Some worst) × (row_in worst ≡ row)
entry_at [] i row at = absurd (cc)
entry_at (worst ∷ rows) zero row at =
    let same : row_in worst ≡ row = cc in
    (worst, refl, same)
entry_at (worst ∷ rows) (suc i) row at = entry_at rows i row at

comes_before : (rows : List Worst) → AreSorted rows → (k : ℕ) (a b : Worst) → slice_get rows k ≡ Some a
    → slice_get rows (suc k) ≡ Some b → ComesBefore (row_in a) (row_in b)
comes_before rows sorted k a b p q =
    let here : get_or rows k a ≡ a = get_or_from_slice_get rows k a a p in
    let next : suc k ≡ k + 1 = omega arith in
    let there : get_or rows (k + 1) a ≡ b =
    ap (λ (n : ℕ). get_or rows n a) (sym next) ∙ get_or_from_slice_get rows (suc k) b a q in
    let within : k + 1 < length rows = omega (arith, slice_get_within rows (suc k) b q) in
    let so : is_lt (ordering_then (nat_cmp (sort_key b).0 (sort_key a).0) (nat_cmp (sort_key b).1 (sort_key a).1))
    ≡ false =
    subst (λ (x : Worst). is_lt (ordering_then (nat_cmp (sort_key b).0 (sort_key x).0)
    (nat_cmp (sort_key b).1 (sort_key x).1)) ≡ false) here
    (subst (λ (x : Worst). is_lt (ordering_then
    (nat_cmp (sort_key x).0 (sort_key (get_or rows k a)).0)
    (nat_cmp (sort_key x).1 (sort_key (get_or rows k a)).1)) ≡ false) there
    (sorted k a (omega arith) within)) in
    elim (not_below (sort_key b).0 (sort_key a).0 (sort_key b).1 (sort_key a).1 so) [
      | inl less ↦ inl less
      | inr same ↦ inr (sym same.0, same.1)
    ]

pub sorted_in_order : (entries rows : List Worst) → IsPermutation entries rows → AreSorted rows
    → AreInOrder (map row_in entries) (map row_in rows)
sorted_in_order entries rows same sorted = record {
  same = IsPermutation-map row_in entries rows same;
  order = λ k a b p q.
      let first = entry_at rows k a p in
      let second = entry_at rows (suc k) b q in
      subst (λ (x : Row). ComesBefore x b) first.2
      (subst (λ (x : Row). ComesBefore (row_in first.0) x) second.2
      (comes_before rows sorted k first.0 second.0 first.1 second.1));
}
