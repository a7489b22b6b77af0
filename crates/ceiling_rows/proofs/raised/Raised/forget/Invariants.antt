use Rattle.std.proofs.Common.{◌≡◌, ℕ, ◌≤◌, Some}
use Rattle.std.specs.Prelude.{slice_get}
use Rattle.ceiling_rows.specs.declared.raised.Onward.{Onward}
use Rattle.ceiling_rows.specs.declared.row.Edge.{Edge}
use Rattle.ceiling_rows.proofs.raised.Raised.forget.Given as goal

-- where anything still stands, an edge that is left leads
abbrev pub invariant-loop-edge : goal.invariant-loop-edge
invariant-loop-edge l = (slot : ℕ) (hop : Onward) → slice_get l.self.onward.items slot ≡ Some (Some hop)
    → (k : ℕ) × (edge : Edge) × (l.edge-index ≤ k) × (slice_get l.edges k ≡ Some edge) × (edge.onto.number ≡ slot)
