-- The rows of the kinds of hops of a walk in rounds, before they are sorted.
use Rattle.std.specs.Prelude.{ℕ, List}
use Rattle.indexmap.specs.IndexMap.{IndexMap, IsUnique, get}
use Rattle.base_words.specs.declared.op.Op.{Op}
use Rattle.base_notes.specs.declared.entry.Entry.{Entry}
use Rattle.flow_walks.specs.declared.piece.Piece.{Piece}
use Rattle.print_hops.specs.declared.kind.Kind.{Kind}
use Rattle.print_hops.specs.KindsOf.{same_kind}
use Rattle.print_ceilings.specs.declared.waits.kind_row.KindRow.{KindRow}
use Rattle.print_ceilings.specs.RoundsWaitsOf.{is_of, IsRowOf}

-- A map has the row of each kind, and no kind twice.
pub record AreRows {S : Type 0} (times : Op → Entry) (pieces : List Piece) (often : List ℕ)
    (limit : ℕ) (rows : IndexMap Kind KindRow S) : Type 0 where
  pub found : (kind : Kind)
      → IsRowOf times pieces often limit (is_of kind) (get same_kind rows kind)
  pub apart : IsUnique same_kind rows
