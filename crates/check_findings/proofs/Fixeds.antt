-- The flags of executed locations without a list say which words are fixed.
use Rattle.std.proofs.Common.{◌≡◌, ℕ, Bool, true, false, not, List, eqb, Some, sym, ◌∙◌, refl}
use Rattle.std.specs.Prelude.{slice_get, Contains, ◌&&◌, ◌↔◌, IsTrue}
use Rattle.std.specs.List.{list_any}
use Rattle.base_notes.specs.Allowed.{Notes, is_listed}
use Rattle.flow_graph.proofs.Orders.{any_contains, contains_any}
use Rattle.flow_acceptance.specs.Fixed.{AreFlagged}
use Rattle.check_findings.specs.FoundAt.{is_fixed}

-- an executed word without a list is fixed
pub fixed_so : (notes : Notes) (executed : List ℕ) (place : ℕ) → Contains executed place
    → ¬ IsTrue (is_listed notes place) → is_fixed notes executed place ≡ true
fixed_so notes executed place there free =
    go (list_any (λ one. eqb one place) executed) (is_listed notes place) (contains_any executed place there) free
  where
    go : (a b : Bool) → a ≡ true → ¬ (b ≡ true) → (a && not b) ≡ true
    go true true e unlisted = absurd (unlisted refl)
    go true false e unlisted = refl
    go false b e unlisted = cc

-- and no other word is
pub fixed_only : (notes : Notes) (executed : List ℕ) (place : ℕ) → is_fixed notes executed place ≡ true
    → Contains executed place × ¬ IsTrue (is_listed notes place)
fixed_only notes executed place is =
    go (list_any (λ one. eqb one place) executed) (is_listed notes place) refl refl is
  where
    go : (a b : Bool) → list_any (λ one. eqb one place) executed ≡ a → is_listed notes place ≡ b → (a && not b) ≡ true
        → Contains executed place × ¬ IsTrue (is_listed notes place)
    go true true there listed e = cc
    go true false there listed e =
        (any_contains executed place there, λ one. let clash : true ≡ false = sym one ∙ listed in cc)
    go false b there listed e = cc

module _ (notes : Notes) (executed : List ℕ) (flags : List Bool) (place : ℕ)
    (are : AreFlagged executed notes flags) where
  pub flagged_fixed : slice_get flags place ≡ Some true → is_fixed notes executed place ≡ true
  flagged_fixed flag =
      let is = are.fixed place flag in
      fixed_so notes executed place is.0 is.1

  pub unflagged_free : ¬ (slice_get flags place ≡ Some true) → is_fixed notes executed place ≡ false
  unflagged_free none =
      go (list_any (λ one. eqb one place) executed) (is_listed notes place) refl refl
    where
      go : (a b : Bool) → list_any (λ one. eqb one place) executed ≡ a → is_listed notes place ≡ b
          → (a && not b) ≡ false
      go true true there listed = refl
      go true false there listed = absurd (none (are.flagged place (any_contains executed place there)
          (λ is. let clash : true ≡ false = sym is ∙ listed in cc)))
      go false b there listed = refl

  -- as the code asks for a flag
  pub answered_fixed : (answer : Bool) → (answer ≡ true) ↔ (slice_get flags place ≡ Some true)
      → is_fixed notes executed place ≡ answer
  answered_fixed true told = flagged_fixed (told.0 refl)
  answered_fixed false told = unflagged_free (λ flag. let clash : false ≡ true = told.1 flag in cc)
