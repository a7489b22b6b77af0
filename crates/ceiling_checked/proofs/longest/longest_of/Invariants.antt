use Rattle.std.proofs.Common.{◌≡◌, ℕ, ◌≤◌, ◌<◌, Some}
use Rattle.std.specs.Prelude.{slice_get}
use Rattle.ceiling_rows.specs.declared.row.Row.{Row}
use Rattle.ceiling_checked.proofs.longest.longest_of.Given as goal

-- the longest of the rows so far
abbrev pub invariant-loop-row : goal.invariant-loop-row
invariant-loop-row l = record {
  some : 1 ≤ l.longest;
  each : (slot : ℕ) (row : Row) → slot < l.row-index → slice_get l.rows slot ≡ Some (Some row) → row.most ≤ l.longest;
  least : (most : ℕ) → 1 ≤ most → ((slot : ℕ) (row : Row) → slice_get l.rows slot ≡ Some (Some row) → row.most ≤ most)
      → l.longest ≤ most;
}
