-- The flags of the executed locations without a list.
use Rattle.std.proofs.Common.{◌≡◌, ℕ, ◌<◌, Bool, true, false, List, [], ◌∷◌, ◌++◌, length, set, replicate, Some, ap}
use Rattle.std.proofs.Common.{sym, ◌∙◌, subst, inl, inr}
use Rattle.std.specs.Prelude.{slice_get, Contains, IsTrue}
use Rattle.std.proofs.lemmas.Bool.{cases_eq}
use Rattle.std.proofs.lemmas.List.Elements.{Contains-append_left, Contains-push, Contains-push_cases}
use Rattle.base_notes.specs.Allowed.{Notes, is_listed}
use Rattle.base_graphs.proofs.Lists.{contains_none, get_written, get_other, get_replicated}
use Rattle.flow_acceptance.specs.Fixed.{AreFlagged}

-- no location, no flag
pub none_flagged : (notes : Notes) (size : ℕ) → AreFlagged [] notes (replicate size false)
none_flagged notes size = record {
  fixed = λ place e. absurd (never place e);
  flagged = λ place there not_listed. absurd (contains_none place there);
}
  where
    never : (place : ℕ) → slice_get (replicate size false) place ≡ Some true → ⊥
    never place e =
        let clash : false ≡ true = get_replicated size place false true e in
        cc

-- one more location without a list
pub flag_more : (places : List ℕ) (notes : Notes) (flags : List Bool) (place : ℕ) → AreFlagged places notes flags
    → place < length flags → ¬ IsTrue (is_listed notes place)
    → AreFlagged (places ++ place ∷ []) notes (set flags place true)
flag_more places notes flags place before inside not_listed = record {
  fixed = λ other e. elim (cases_eq other place) [
    | inl same ↦ (
      subst (λ (p : ℕ). Contains (places ++ place ∷ []) p) (sym same) (Contains-push places place),
      subst
          (λ (p : ℕ). ¬ IsTrue (is_listed notes p)) (sym same) not_listed,
    )
    | inr ne ↦ (let was =
        before.fixed other (sym (get_other flags place other true ne)
        ∙ e) in (Contains-append_left places (place ∷ []) other was.0, was.1))
  ];
  flagged = λ other there free. elim (cases_eq other place) [
    | inl same ↦ ap (slice_get (set flags place true)) same ∙ get_written flags place true inside
    | inr ne ↦ (elim (Contains-push_cases places place other there) [
      | inl earlier ↦ get_other flags place other true ne ∙ before.flagged other earlier free
      | inr same ↦ absurd (ne (sym same))
    ])
  ];
}

-- one more location with a list
pub flag_same : (places : List ℕ) (notes : Notes) (flags : List Bool) (place : ℕ) → AreFlagged places notes flags
    → IsTrue (is_listed notes place)
    → AreFlagged (places ++ place ∷ []) notes flags
flag_same places notes flags place before listed = record {
  fixed =
      λ other e. (Contains-append_left places (place ∷ []) other (before.fixed other e).0, (before.fixed other e).1);
  flagged = λ other there free. elim (Contains-push_cases places place other there) [
    | inl earlier ↦ before.flagged other earlier free
    | inr same ↦ absurd (free (subst (λ (p : ℕ). IsTrue (is_listed notes p)) same listed))
  ];
}
