-- Edges of locations that don't both go on and lead back.
use Rattle.std.proofs.Common.{◌≡◌, ℕ, ◌+◌, ◌≤◌, List, ◌∷◌, ◌++◌, Some, ap, sym, ◌∙◌, subst, inl, inr, arith, []}
use Rattle.std.specs.Prelude.{slice_get, slice_index, false, is_some, Contains, IfNone, None, Option}
use Rattle.std.proofs.lemmas.Bool.{cases_lt}
use Rattle.std.proofs.lemmas.List.Elements.{Contains-push_cases}
use Rattle.std.proofs.lemmas.Option.{same_Some}
use Rattle.flow_loops.specs.Closing.{AreTargets, IsBack}
use Rattle.flow_loops.specs.Spared.{AreOneWay, IsAhead, IsOn}

-- no edge in a node's row goes on to one of these locations
abbrev pub NoneAhead : List ℕ → List ℕ → List ℕ → ℕ → List ℕ → Type 0
NoneAhead row ranks places node targets = (onto : ℕ) → IsAhead row ranks places node onto → ¬ Contains targets onto

-- nor does one of the first nodes that are at a location
abbrev pub NoneOn : (ℕ → List ℕ) → List ℕ → List ℕ → ℕ → ℕ → List ℕ → Type 0
NoneOn row ranks places count from targets =
    (onto : ℕ) → IsOn row ranks places count from onto → ¬ Contains targets onto

-- what isn't found is absent
pub absent_at : (found : Option ℕ) (targets : List ℕ) (place : ℕ) → is_some found ≡ false
    → IfNone found (¬ Contains targets place) → ¬ Contains targets place
absent_at None targets place none absent = absent
absent_at (Some index) targets place none absent = cc

module _ (row ranks places : List ℕ) (node : ℕ) (targets : List ℕ) (next : ℕ)
    (before : NoneAhead row ranks places node targets) where
  -- one more node that isn't ahead
  pub ahead_low : slice_index ranks next ≤ slice_index ranks node
      → NoneAhead (row ++ next ∷ []) ranks places node targets
  ahead_low low onto is there = elim (Contains-push_cases row next is.next is.edge) [
    | inl was ↦ before onto (record { next = is.next; edge = was; ahead = is.ahead; ends = is.ends }) there
    | inr same ↦ omega (arith, low, is.ahead, ap (λ (n : ℕ). slice_index ranks n) same)
  ]

  -- one more node that is at none of these locations
  pub ahead_absent : (place : ℕ) → slice_get places next ≡ Some place → ¬ Contains targets place
      → NoneAhead (row ++ next ∷ []) ranks places node targets
  ahead_absent place at absent onto is there = elim (Contains-push_cases row next is.next is.edge) [
    | inl was ↦ before onto (record { next = is.next; edge = was; ahead = is.ahead; ends = is.ends }) there
    | inr same ↦ absent (subst (λ (n : ℕ). Contains targets n)
        (same_Some onto place (sym is.ends ∙ ap (slice_get places) (sym same) ∙ at)) there)
  ]

module _ (row : ℕ → List ℕ) (ranks places : List ℕ) (k from : ℕ) (targets : List ℕ)
    (before : NoneOn row ranks places k from targets) where
  -- one more node, at another location
  pub on_other : (place : ℕ) → slice_get places k ≡ Some place → (place ≡ from → ⊥)
      → NoneOn row ranks places (k + 1) from targets
  on_other place at other onto is there = elim (cases_lt is.node k) [
    | inl early ↦ before onto
        (record { node = is.node; early = early; begins = is.begins; ahead = is.ahead }) there
    | inr late ↦ (let same : is.node ≡ k = omega (arith, late, is.early) in
        other (same_Some place from (sym at ∙ ap (slice_get places) (sym same) ∙ is.begins)))
  ]

  -- one more node whose edges don't
  pub on_more : NoneAhead (row k) ranks places k targets → NoneOn row ranks places (k + 1) from targets
  on_more none onto is there = elim (cases_lt is.node k) [
    | inl early ↦ before onto
        (record { node = is.node; early = early; begins = is.begins; ahead = is.ahead }) there
    | inr late ↦ (let same : is.node ≡ k = omega (arith, late, is.early) in
        none onto (subst (λ (n : ℕ). IsAhead (row n) ranks places n onto) same is.ahead) there)
  ]

-- one more location
pub one_way_more : (row : ℕ → List ℕ) (ranks places : List ℕ) (count : ℕ) (froms : List ℕ) (from : ℕ)
    (targets : List ℕ) → AreOneWay row ranks places count froms → AreTargets row ranks places count from targets
    → NoneOn row ranks places count from targets → AreOneWay row ranks places count (froms ++ from ∷ [])
one_way_more row ranks places count froms from targets before are none other onto there on back =
    elim (Contains-push_cases froms from other there) [
      | inl was ↦ before other onto was on back
      | inr same ↦ none onto (subst (λ (n : ℕ). IsOn row ranks places count n onto) (sym same) on)
          (are.all onto (subst (λ (n : ℕ). IsBack row ranks places count n onto) (sym same) back))
    ]
