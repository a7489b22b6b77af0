-- The rows of the first keys, one after the other: their locations have as many hops as those keys.
use Rattle.std.proofs.Common.{◌≡◌, ℕ, zero, suc, ◌+◌, ◌≤◌, ◌⊎◌, List, [], ◌∷◌, length, map, refl, ap, sym, ◌∙◌, subst}
use Rattle.std.proofs.Common.{inl, inr, Option, Some, None, arith}
use Rattle.std.specs.Prelude.{slice_get, Contains, sum}
use Rattle.std.proofs.lemmas.Bool.{cases_eq}
use Rattle.std.proofs.lemmas.List.Sums.{sum-map, sum_by-cons}
use Rattle.base_graphs.specs.Graph.{AreDifferent}
use Rattle.base_graphs.proofs.Lists.{contains_here, contains_there, contains_cases, contains_none, contains_at}
use Rattle.base_graphs.proofs.Lists.{contains_from_get}
use Rattle.flow_graph.specs.Hops.{hops}
use Rattle.flow_graph.specs.Walk.{Setting}
use Rattle.bound_scan.specs.declared.latest.Latest.{Latest}
use Rattle.bound_scan.specs.Keys.{keys_of}
use Rattle.bound_scan.specs.RowOf.{row_of}
use Rattle.bound_scan.specs.Scanned.{cell_at, turns_at, turns_below}
use Rattle.bound_scan.specs.Table.{Row, AreApart}
use Rattle.bound_scan.proofs.Rows.{AreRowsOf, IsRowOf, one_row}

-- rows without one of them
abbrev without : List Row → ℕ → List Row
without [] k = []
without (row ∷ rows) zero = rows
without (row ∷ rows) (suc k) = row ∷ without rows k

without_in : (rows : List Row) (k : ℕ) (row : Row) → Contains (without rows k) row → Contains rows row
without_in [] k row has = has
without_in (first ∷ rows) zero row has = contains_there first row rows has
without_in (first ∷ rows) (suc k) row has = elim (contains_cases first row (without rows k) has) [
  | inl same ↦ subst (Contains (first ∷ rows)) same (contains_here first rows)
  | inr behind ↦ contains_there first row rows (without_in rows k row behind)
]

without_has : (rows : List Row) (k : ℕ) (gone row : Row) → slice_get rows k ≡ Some gone → Contains rows row
    → (gone ≡ row) ⊎ Contains (without rows k) row
without_has [] k gone row at has = absurd (contains_none row has)
without_has (first ∷ rows) zero gone row at has =
    let is : first ≡ gone = cc in
    elim (contains_cases first row rows has) [ inl same ↦ inl (sym is ∙ same) | inr behind ↦ inr behind ]
without_has (first ∷ rows) (suc k) gone row at has = elim (contains_cases first row rows has) [
  | inl same ↦ inr (subst (Contains (first ∷ without rows k)) same (contains_here first (without rows k)))
  | inr behind ↦ (elim (without_has rows k gone row at behind)
      [ inl is ↦ inl is | inr left ↦ inr (contains_there first row (without rows k) left) ])
]

without_apart : (rows : List Row) (k : ℕ) → AreApart rows → AreApart (without rows k)
without_apart [] k apart = tt
without_apart (first ∷ rows) zero apart = apart.1
without_apart (first ∷ rows) (suc k) apart =
    (λ other there. apart.0 other (without_in rows k other there), without_apart rows k apart.1)

without_unlike : (rows : List Row) (k : ℕ) (gone row : Row) → AreApart rows → slice_get rows k ≡ Some gone
    → Contains (without rows k) row
    → gone.place ≡ row.place → gone.counts ≡ row.counts → ⊥
without_unlike [] k gone row apart at has places counts = contains_none row has
without_unlike (first ∷ rows) zero gone row apart at has places counts =
    let is : first ≡ gone = cc in
    apart.0 row has (ap (λ (r : Row). r.place) is ∙ places) (ap (λ (r : Row). r.counts) is ∙ counts)
without_unlike (first ∷ rows) (suc k) gone row apart at has places counts =
    elim (contains_cases first row (without rows k) has) [
      | inl same ↦ apart.0 gone (contains_from_get rows k gone at) (ap (λ (r : Row). r.place) same ∙ sym places)
          (ap (λ (r : Row). r.counts) same ∙ sym counts)
      | inr behind ↦ without_unlike rows k gone row apart.1 at behind places counts
    ]

sum_cons : (f : Row → ℕ) (row : Row) (rows : List Row) → sum (map f (row ∷ rows)) ≡ f row + sum (map f rows)
sum_cons f row rows = sum-map f (row ∷ rows) ∙ sum_by-cons f row rows ∙ ap (λ (n : ℕ). f row + n) (sym (sum-map f rows))

without_sum : (f : Row → ℕ) (rows : List Row) (k : ℕ) (gone : Row) → slice_get rows k ≡ Some gone
    → sum (map f rows) ≡ f gone + sum (map f (without rows k))
without_sum f [] k gone at = absurd (cc)
without_sum f (first ∷ rows) zero gone at =
    let is : first ≡ gone = cc in
    sum_cons f first rows ∙ ap (λ (r : Row). f r + sum (map f rows)) is
without_sum f (first ∷ rows) (suc k) gone at =
    omega (arith, sum_cons f first rows, without_sum f rows k gone at, sum_cons f first (without rows k))

module _ (g : Setting) (order : List ℕ) (cells : List (Option Latest)) (different : AreDifferent order) where
  abbrev hops_at : Row → ℕ
  hops_at row = length (hops g.loads g.notes row.place)

  -- the rows but that of the last key are those of the keys before it
  rows_before : (key : ℕ) (kept : Latest) (rows : List Row) (k : ℕ) → suc key ≤ keys_of g.notes.marks order
      → AreRowsOf g order cells (suc key) rows → cell_at cells key ≡ Some kept
      → slice_get rows k ≡ Some (row_of g order key kept) → AreRowsOf g order cells key (without rows k)
  rows_before key kept rows k few are there at = record {
    from = λ row has.
        let of : IsRowOf g order cells (suc key) row = are.from row (without_in rows k row has) in
        elim (cases_eq of.key key) [
          | inl same ↦ absurd (without_unlike rows k (row_of g order key kept) row are.apart at has
              (ap (place_of key kept) (sym same) ∙ ap (λ (r : Row). r.place) of.is)
              (ap (counts_of key kept) (sym same) ∙ ap (λ (r : Row). r.counts) of.is))
          | inr ne ↦ record {
            key = of.key;
            below = omega (arith, of.below, ne);
            kept = of.kept;
            there = of.there;
            is = of.is;
          }
        ];
    has = λ other one below is.
        elim (without_has rows k (row_of g order key kept) (row_of g order other one) at
        (are.has other one (omega (arith, below)) is)) [
          | inl same ↦ (
              let key_same : key ≡ other =
              one_row g order cells key other different few (omega (arith, below, few))
              (ap (λ (r : Row). r.place) same) (ap (λ (r : Row). r.counts) same) in
              absurd (omega (arith, key_same, below)))
          | inr left ↦ left
        ];
    apart = without_apart rows k are.apart;
  }
    where
      place_of : ℕ → Latest → ℕ → ℕ
      place_of any one other = (row_of g order other one).place

      counts_of : ℕ → Latest → ℕ → ℕ
      counts_of any one other = (row_of g order other one).counts

  -- Rows have as many hops as their keys.
  pub rows_sum : (first : ℕ) (rows : List Row) → first ≤ keys_of g.notes.marks order
      → AreRowsOf g order cells first rows → sum (map hops_at rows) ≡ turns_below g order cells first
  rows_sum zero [] few are = refl
  rows_sum zero (row ∷ rows) few are = absurd (omega (arith, (are.from row (contains_here row rows)).below))
  rows_sum (suc key) rows few are =
      go (cell_at cells key) refl (λ others of. rows_sum key others (omega (arith, few)) of)
    where
      go : (cell : Option Latest) → cell_at cells key ≡ cell
          → ((others : List Row) → AreRowsOf g order cells key others
          → sum (map hops_at others) ≡ turns_below g order cells key)
          → sum (map hops_at rows) ≡ turns_below g order cells key + turns_at g order key cell
      go None none before =
          let same : sum (map hops_at rows) ≡ turns_below g order cells key = before rows (record {
            from = λ row has.
                let of : IsRowOf g order cells (suc key) row = are.from row has in
                elim (cases_eq of.key key) [
                  | inl same ↦ clash of.kept (sym none ∙ ap (cell_at cells) (sym same) ∙ of.there)
                  | inr ne ↦ record {
                    key = of.key;
                    below = omega (arith, of.below, ne);
                    kept = of.kept;
                    there = of.there;
                    is = of.is;
                  }
                ];
            has = λ other one below is. are.has other one (omega (arith, below)) is;
            apart = are.apart;
          }) in
          omega (arith, same)
        where
          clash : {A : Type 0} (kept : Latest) → None ≡ Some kept → A
          clash kept e = absurd (cc)
      go (Some kept) there before =
          let at = contains_at rows (row_of g order key kept) (are.has key kept (omega arith) there) in
          omega (
            arith,
            without_sum hops_at rows at.0 (row_of g order key kept) at.1,
            before (without rows at.0) (rows_before key kept rows at.0 few are there at.1),
          )
