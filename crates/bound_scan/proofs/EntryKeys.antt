-- The keys of entries: none stands twice, and what that leads to.
use Rattle.std.proofs.Common.{◌≡◌, ℕ, zero, suc, ◌≤◌, ◌<◌, Bool, true, false, cond, List, [], ◌∷◌, length, refl, ap, sym, ◌∙◌}
use Rattle.std.proofs.Common.{subst, inl, inr, ◌||◌, Some, arith, eq-eqb}
use Rattle.std.specs.Prelude.{slice_get, nat_eq, Contains}
use Rattle.std.specs.List.{list_any, AllByRecursion, IsDistinct}
use Rattle.std.specs.Map.{keys_of, values_of}
use Rattle.std.proofs.lemmas.Bool.{eqb-true, ne_eqb}
use Rattle.std.proofs.lemmas.List.{length-map}
use Rattle.std.proofs.lemmas.Map.Keys.{IsDistinct-head, IsDistinct-tail}
use Rattle.std.proofs.lemmas.Map.Steps.{length-le_from_distinct_below}
use Rattle.base_graphs.specs.Graph.{AreDifferent}
use Rattle.base_graphs.proofs.Lists.{contains_cases, contains_from_get, contains_here, contains_map, contains_none, contains_there}
use Rattle.bound_scan.specs.declared.key_hop.KeyHop.{KeyHop}
use Rattle.bound_scan.specs.declared.worst.Worst.{Worst}
use Rattle.bound_scan.specs.InEntries.{latest_at, kept_by, IsEntryOf}

-- a key that is unlike each of the others isn't one of them
unlike : (key : ℕ) (keys : List ℕ) → AllByRecursion (λ other. nat_eq key other ≡ false) keys → ¬ Contains keys key
unlike key [] apart there = contains_none key there
unlike key (first ∷ keys) apart there = elim (contains_cases first key keys there) [
  | inl same ↦ clash (sym apart.0 ∙ eq-eqb key first (sym same))
  | inr behind ↦ unlike key keys apart.1 behind
]
  where
    clash : false ≡ true → ⊥
    clash e = cc

pub different_keys : (keys : List ℕ) → IsDistinct nat_eq keys → AreDifferent keys
different_keys [] apart = tt
different_keys (key ∷ keys) apart =
    (unlike key keys (IsDistinct-head nat_eq key keys apart), different_keys keys (IsDistinct-tail nat_eq key keys apart))

-- a key that some entry has is below what all are
any_below : (pairs : List (ℕ × Worst)) (n key : ℕ) → ((k : ℕ) (entry : Worst) → Contains pairs (k, entry) → k < n)
    → list_any (nat_eq key) (keys_of pairs) ≡ true → key < n
any_below [] n key below has = cc
any_below (pair ∷ pairs) n key below has =
    go (nat_eq key pair.0) refl has
    (any_below pairs n key (λ k entry there. below k entry (contains_there pair (k, entry) pairs there)))
  where
    go : (b : Bool) → nat_eq key pair.0 ≡ b → (b || list_any (nat_eq key) (keys_of pairs)) ≡ true
        → (list_any (nat_eq key) (keys_of pairs) ≡ true → key < n) → key < n
    go true same has others =
        omega (arith, eqb-true key pair.0 same, below pair.0 pair.1 (contains_here pair pairs))
    go false ne has others = others has

-- There are no more entries than keys.
pub entries_few : (pairs : List (ℕ × Worst)) (n : ℕ) → IsDistinct nat_eq (keys_of pairs)
    → ((key : ℕ) (entry : Worst) → Contains pairs (key, entry) → key < n) → length pairs ≤ n
entries_few pairs n apart below =
    omega (
      arith,
      length-le_from_distinct_below (keys_of pairs) n apart
          (λ key has. any_below pairs n key below has),
      length-map pairs (λ (pair : ℕ × Worst). pair.0),
    )

-- Each entry is kept at its key.
pub entry_kept : (angle key : ℕ) (pairs : List (ℕ × Worst)) (origins : List KeyHop) (entry : Worst)
    → AreDifferent (keys_of pairs) → length origins ≡ length pairs → Contains pairs (key, entry)
    → (origin : KeyHop) × (kept_by angle key pairs origins ≡ Some (latest_at angle key entry origin))
entry_kept angle key [] origins entry apart paired there = absurd (contains_none (key, entry) there)
entry_kept angle key (pair ∷ pairs) [] entry apart paired there = absurd (omega (arith, paired))
entry_kept angle key (pair ∷ pairs) (origin ∷ origins) entry apart paired there =
    elim (contains_cases pair (key, entry) pairs there) [
      | inl same ↦ (
          let own : nat_eq key pair.0 ≡ true = eq-eqb key pair.0 (sym (ap (λ (p : ℕ × Worst). p.0) same)) in (
            origin,
            ap (λ (b : Bool). cond b (Some (latest_at angle key pair.1 origin)) (kept_by angle key pairs origins)) own
                ∙ ap (λ (p : ℕ × Worst). Some (latest_at angle key p.1 origin)) same,
          ))
      | inr behind ↦ (
          let ne : nat_eq key pair.0 ≡ false =
          ne_eqb key pair.0 (λ same.
          apart.0 (subst (Contains (keys_of pairs)) same (contains_map (λ (p : ℕ × Worst). p.0) pairs (key, entry) behind))) in
          let one = entry_kept angle key pairs origins entry apart.1 (omega (arith, paired)) behind in (
            one.0,
            ap (λ (b : Bool). cond b (Some (latest_at angle key pair.1 origin)) (kept_by angle key pairs origins)) ne
                ∙ one.1,
          ))
    ]

-- An entry at a place has its key there.
pub pair_at : (pairs : List (ℕ × Worst)) (k : ℕ) (entry : Worst) → slice_get (values_of pairs) k ≡ Some entry
    → (key : ℕ) × (slice_get pairs k ≡ Some (key, entry)) × (slice_get (keys_of pairs) k ≡ Some key)
pair_at [] k entry at = absurd (cc)
pair_at (pair ∷ pairs) zero entry at =
    let same : pair.1 ≡ entry = cc in
    (pair.0, ap (λ (e : Worst). Some (pair.0, e)) same, refl)
pair_at (pair ∷ pairs) (suc k) entry at = pair_at pairs k entry at

-- What stands at an index, where no key stands twice, is the key's entry.
pub entry_at : (key : ℕ) (pairs : List (ℕ × Worst)) (index : ℕ) → AreDifferent (keys_of pairs)
    → slice_get (keys_of pairs) index ≡ Some key → IsEntryOf key pairs index
entry_at key [] index apart at = cc
entry_at key (pair ∷ pairs) zero apart at = cc
entry_at key (pair ∷ pairs) (suc index) apart at = (
  λ same. apart.0 (contains_from_get (keys_of pairs) index pair.0 (at ∙ ap (λ (k : ℕ). Some k) same)),
  entry_at key pairs index apart.1 at,
)
