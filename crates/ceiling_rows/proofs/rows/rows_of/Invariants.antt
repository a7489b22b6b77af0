use Rattle.std.proofs.Common.{◌≡◌, ℕ, ◌<◌, Some, vec_len}
use Rattle.std.specs.Prelude.{slice_get}
use Rattle.flow_graph.specs.Flow.{deck_of, executed_in, notes_of}
use Rattle.flow_graph.specs.SettingOf.{setting}
use Rattle.ceiling_rows.specs.declared.row.Row.{Row}
use Rattle.ceiling_rows.specs.Raised.{HasNone}
use Rattle.ceiling_rows.specs.Rows.{IsRowNumber, IsRowOf}
use Rattle.ceiling_rows.proofs.rows.rows_of.Given as goal

-- the rows at the numbers so far, and nothing is kept of their hops
abbrev pub invariant-loop-number : goal.invariant-loop-number
invariant-loop-number l = record {
  long : vec_len l.rows ≡ l.number;
  each : (slot : ℕ) (row : Row) → slice_get l.rows.items slot ≡ Some (Some row)
      → IsRowOf (setting (deck_of l.flow) l.times (notes_of l.flow)) (executed_in l.flow) slot row;
  all : (slot : ℕ) → slot < l.number → IsRowNumber (executed_in l.flow) slot
      → (row : Row) × (slice_get l.rows.items slot ≡ Some (Some row));
  forgotten : HasNone l.raised;
}
