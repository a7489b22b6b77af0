-- Locations of which nothing is found.
use Rattle.std.proofs.Common.{◌≡◌, ℕ, Bool, true, false, List, [], ◌∷◌, ◌++◌, map, refl, ap, ◌∙◌, inl, inr}
use Rattle.std.proofs.Common.{Option, is_some}
use Rattle.std.specs.Prelude.{Contains, cond, flat_map, ◌||◌}
use Rattle.base_words.specs.declared.instruction.Instruction.{Instruction}
use Rattle.base_words.specs.declared.word.Word.{Word}
use Rattle.base_notes.specs.Allowed.{Notes, allowed, is_listed}
use Rattle.machine_steps.specs.Writes.{writes}
use Rattle.flow_graph.specs.Accepted as said
use Rattle.flow_graph.specs.Accepted.{IsGood, IsThere}
use Rattle.flow_graph.specs.Executed.{with_new}
use Rattle.flow_graph.specs.Flow.{AreFound}
use Rattle.check_findings.specs.Finding.{Finding, not_loaded, not_in_profile, alters}
use Rattle.check_findings.specs.FoundAt.{altered_by, altering, is_fixed, not_there, unfit}
use Rattle.check_findings.specs.UnchangedParts.{kept_of}
use Rattle.check_findings.proofs.Fixeds.{fixed_only}
use Rattle.check_findings.proofs.Outsides.{outside_of}
use Rattle.check_findings.proofs.Nothing.{all_nothing, none_passes}

pub there_untold : (loads : ℕ → Option Word) (notes : Notes) (place : ℕ) → IsThere loads notes place
    → not_there loads notes place ≡ []
there_untold loads notes place (inl loaded) =
    ap (λ (b : Bool). cond (b || is_listed notes place) [] (not_loaded place ∷ [])) loaded
there_untold loads notes place (inr listed) = go (is_some (loads place)) (is_listed notes place) listed
  where
    go : (a b : Bool) → b ≡ true → cond (a || b) [] (not_loaded place ∷ []) ≡ []
    go true b e = refl
    go false true e = refl
    go false false e = cc

-- and one that is neither loaded nor listed is found
pub absent_told : (loads : ℕ → Option Word) (notes : Notes) (place : ℕ) → ¬ IsThere loads notes place
    → not_there loads notes place ≡ not_loaded place ∷ []
absent_told loads notes place none = go (is_some (loads place)) (is_listed notes place) refl refl
  where
    go : (a b : Bool) → is_some (loads place) ≡ a → is_listed notes place ≡ b
        → cond (a || b) [] (not_loaded place ∷ []) ≡ not_loaded place ∷ []
    go true b e f = absurd (none (inl e))
    go false true e f = absurd (none (inr f))
    go false false e f = refl

-- of a location that is in order nothing is found
pub good_fit : (loads : ℕ → Option Word) (notes : Notes) (place : ℕ) → IsGood loads notes place
    → unfit loads notes place ≡ []
good_fit loads notes place good =
    let no_operation : flat_map outside_of (allowed loads notes place) ≡ [] =
    all_nothing outside_of (allowed loads notes place)
    (λ ins has. ap (λ (b : Bool). cond b [] (ins.op ∷ [])) (good.1 ins has)) in
    ap (λ (xs : List Finding). xs ++ map (not_in_profile place)
    (with_new [] (flat_map outside_of (allowed loads notes place)))) (there_untold loads notes place good.0)
    ∙ ap (λ (xs : List ℕ). map (not_in_profile place) (with_new [] xs)) no_operation

module _ (loads : ℕ → Option Word) (notes : Notes) (start : ℕ) (executed : List ℕ)
    (found : AreFound loads notes start executed) where
  -- an instruction that alters nothing adds no word
  pub alters_none : (ins : Instruction) → ¬ said.Alters loads notes start ins → altered_by notes executed ins ≡ []
  alters_none ins none = none_passes (is_fixed notes executed) (writes ins)
      (λ at written. free at written (is_fixed notes executed at) refl)
    where
      free : (at : ℕ) → Contains (writes ins) at → (b : Bool) → is_fixed notes executed at ≡ b
          → is_fixed notes executed at ≡ false
      free at written true e =
          let fixed = fixed_only notes executed at e in
          absurd (none (at, written, (found.only at fixed.0, fixed.1)))
      free at written false e = e

  -- nor does a location whose instructions alter nothing
  pub unaltering : (place : ℕ)
      → ((ins : Instruction) → Contains (allowed loads notes place) ins → ¬ said.Alters loads notes start ins)
      → altering loads notes executed place ≡ []
  unaltering place none =
      ap (λ (xs : List ℕ). map (λ (word : ℕ). alters place word (kept_of loads notes place word)) (with_new [] xs))
      (all_nothing (altered_by notes executed) (allowed loads notes place)
      (λ ins has. alters_none ins (none ins has)))
