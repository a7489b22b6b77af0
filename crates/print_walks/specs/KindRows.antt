-- The rows of a walk's kinds of hops, before they are sorted.
use Rattle.std.specs.Prelude.{◌≡◌, ℕ, List}
use Rattle.indexmap.specs.IndexMap.{IndexMap, IsUnique, get}
use Rattle.base_words.specs.declared.op.Op.{Op}
use Rattle.base_notes.specs.declared.entry.Entry.{Entry}
use Rattle.flow_walks.specs.declared.visit.Visit.{Visit}
use Rattle.print_hops.specs.declared.kind.Kind.{Kind}
use Rattle.print_hops.specs.KindsOf.{same_kind}
use Rattle.print_walks.specs.declared.waits.wait.Wait.{Wait}
use Rattle.print_walks.specs.WaitsOf.{of_kind, row_of}

-- A map has the row of each kind of hops of a walk, and no kind twice.
pub record AreRows {S : Type 0} (times : Op → Entry) (angle : ℕ) (walk : List Visit)
    (rows : IndexMap Kind Wait S) : Type 0 where
  pub found : (kind : Kind) → get same_kind rows kind ≡ row_of times angle (of_kind kind walk)
  pub apart : IsUnique same_kind rows
