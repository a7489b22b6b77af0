-- What is owed by prices, where a level stands.
use Rattle.std.proofs.Common.{◌≡◌, ℕ, ◌+◌, ◌-◌, List, Option, Some, None, refl, ap}
use Rattle.base_notes.specs.declared.notes.mark.Mark.{Mark}
use Rattle.flow_graph.specs.Hops.{Node}
use Rattle.ceiling_checked.specs.Affine.{cost_left, owed_by, Affine}

-- what is owed where a level stands
pub owed_at : (marks : List Mark) (prices : List ℕ) (form : Affine) (node : Node) (angle due : ℕ) (counts : List ℕ)
    → owed_by marks prices form node angle counts ≡ Some due
    → (level : ℕ) × (form.level node angle ≡ Some level)
    × (due ≡ level + cost_left (λ k. form.region k node angle) 0 marks prices counts - form.debt)
owed_at marks prices form node angle due counts is = go (form.level node angle) refl is
  where
    go : (level : Option ℕ) → form.level node angle ≡ level
        → elim level [
          | None ↦ None
          | Some one ↦ Some (one + cost_left (λ k. form.region k node angle) 0 marks prices counts - form.debt)
        ] ≡ Some due
        → (level : ℕ) × (form.level node angle ≡ Some level)
        × (due ≡ level + cost_left (λ k. form.region k node angle) 0 marks prices counts - form.debt)
    go None there owed = cc
    go (Some one) there owed = (one, there, cc)

-- and the other way about
pub owed_there : (marks : List Mark) (prices : List ℕ) (form : Affine) (node : Node) (angle level : ℕ) (counts : List ℕ)
    → form.level node angle ≡ Some level
    → owed_by marks prices form node angle counts
    ≡ Some (level + cost_left (λ k. form.region k node angle) 0 marks prices counts - form.debt)
owed_there marks prices form node angle level counts is =
    ap (λ (one : Option ℕ). elim one [
      | None ↦ None
      | Some level ↦ Some (level + cost_left (λ k. form.region k node angle) 0 marks prices counts - form.debt)
    ]) is
