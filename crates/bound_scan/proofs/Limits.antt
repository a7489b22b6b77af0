-- Entries that are never more than keys.
use Rattle.std.proofs.Common.{◌≡◌, ℕ, zero, suc, ◌<◌, ◌≤◌, List, [], ◌∷◌, ◌++◌, length, ap, subst, inl, inr, ◌⊎◌, arith}
use Rattle.std.specs.Prelude.{Result, Ok, Err, OnOk, OnErr, Contains, nat_eq}
use Rattle.std.specs.List.{IsDistinct}
use Rattle.std.specs.Map.{keys_of}
use Rattle.indexmap.specs.Layout.{set_value_at, length-set_value_at}
use Rattle.base_graphs.proofs.Lists.{contains_cases, contains_here, contains_there}
use Rattle.bound_scan.specs.declared.worst.Worst.{Worst}
use Rattle.bound_scan.specs.Below.{AreBelow}
use Rattle.bound_scan.proofs.Entering.{added_cases}
use Rattle.bound_scan.proofs.EntryKeys.{entries_few}

-- the entries are others whose keys are few
pub record AreLimited (pairs : List (ℕ × Worst)) (keys : ℕ) : Type 0 where
  pub below : AreBelow pairs keys
  pub limit : length pairs ≤ keys

pub limited_as : (pairs others : List (ℕ × Worst)) (keys : ℕ) → pairs ≡ others → AreLimited others keys
    → AreLimited pairs keys
limited_as pairs others keys same few = record {
  below = λ key entry there. few.below key entry (subst (λ (all : List (ℕ × Worst)). Contains all (key, entry)) same there);
  limit = omega (arith, few.limit, ap (λ (all : List (ℕ × Worst)). length all) same);
}

-- one more of a key that has none
pub limited_more : (pairs more : List (ℕ × Worst)) (key keys : ℕ) (entry : Worst) → AreBelow pairs keys → key < keys
    → more ≡ pairs ++ (key, entry) ∷ [] → IsDistinct nat_eq (keys_of more) → AreLimited more keys
limited_more pairs more key keys entry below less added apart =
    let all_below : AreBelow more keys = λ other one there. elim (added_cases pairs (key, entry) (other, one)
    (subst (λ (all : List (ℕ × Worst)). Contains all (other, one)) added there)) [
      | inl same ↦ omega (arith, less, ap (λ (pair : ℕ × Worst). pair.0) same)
      | inr was ↦ below other one was
    ] in
    record { below = all_below; limit = entries_few more keys apart all_below }

-- one in the place of another
below_put : (pairs : List (ℕ × Worst)) (index keys : ℕ) (entry : Worst) → AreBelow pairs keys
    → AreBelow (set_value_at pairs index entry) keys
below_put [] index keys entry below = below
below_put (pair ∷ pairs) zero keys entry below = λ other one there.
    elim (contains_cases (pair.0, entry) (other, one) pairs there) [
      | inl same ↦ omega (
        arith,
        below pair.0 pair.1 (contains_here pair pairs),
        ap (λ (p : ℕ × Worst). p.0) same,
      )
      | inr behind ↦ below other one (contains_there pair (other, one) pairs behind)
    ]
below_put (pair ∷ pairs) (suc index) keys entry below = λ other one there.
    elim (contains_cases pair (other, one) (set_value_at pairs index entry) there) [
      | inl same ↦ below other one (subst (Contains (pair ∷ pairs)) same (contains_here pair pairs))
      | inr behind ↦ below_put pairs index keys entry
          (λ k e more. below k e (contains_there pair (k, e) pairs more)) other one behind
    ]

pub limited_put : (pairs : List (ℕ × Worst)) (index keys : ℕ) (entry : Worst) → AreBelow pairs keys
    → length pairs ≤ keys → AreLimited (set_value_at pairs index entry) keys
limited_put pairs index keys entry below limit = record {
  below = below_put pairs index keys entry below;
  limit = omega (arith, limit, length-set_value_at pairs index entry);
}

-- a result is one or the other
pub either : {A B : Type 0} (result : Result A B) (P Q : Type 0) → OnOk result P → OnErr result Q → P ⊎ Q
either (Ok value) P Q holds other = inl holds
either (Err error) P Q holds other = inr other
