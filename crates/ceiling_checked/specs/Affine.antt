-- Certificates by prices of the marks: what is owed is a level of the node, and in the region of
-- each mark its price for each pass that is left.
use Rattle.std.specs.Prelude.{ℕ, ◌+◌, ◌-◌, ◌*◌, if◌then◌else◌, Bool, List, [], ◌∷◌, Option, Some}
use Rattle.std.specs.Prelude.{None}
use Rattle.base_notes.specs.declared.notes.mark.Mark.{Mark}
use Rattle.flow_graph.specs.Hops.{Node}

-- Where levels stand, by node and angle, and the regions of the marks, by index, node and angle.
-- A level less the debt may be below 0, but neither level nor debt is; and what is owed never is.
pub record Affine : Type 0 where
  pub level : Node → ℕ → Option ℕ
  pub region : ℕ → Node → ℕ → Bool
  pub debt : ℕ

-- what the passes cost that are left of these marks, of each whose region has where one is; the
-- first has this index
abbrev pub cost_left : (ℕ → Bool) → ℕ → List Mark → List ℕ → List ℕ → ℕ
cost_left within index [] prices counts = 0
cost_left within index (mark ∷ marks) [] counts = 0
cost_left within index (mark ∷ marks) (price ∷ prices) [] = 0
cost_left within index (mark ∷ marks) (price ∷ prices) (count ∷ counts) =
    (if within index then price * (mark.most - count) else 0)
    + cost_left within (index + 1) marks prices counts

-- what is owed at a node, an angle and counts: nothing is known where no level stands
abbrev pub owed_by : List Mark → List ℕ → Affine → Node → ℕ → List ℕ → Option ℕ
owed_by marks prices form node angle counts =
    elim (form.level node angle) [
      | None ↦ None
      | Some level ↦ Some (level
          + cost_left (λ index. form.region index node angle) 0 marks prices counts - form.debt)
    ]
