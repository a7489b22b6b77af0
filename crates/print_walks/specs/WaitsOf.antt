-- What the waits of a walk are, as the code has them.
use Rattle.std.specs.Prelude.{◌≡◌, ℕ, List, [], ◌∷◌, filter, map}
use Rattle.std.specs.Prelude.{Option, Some, None, Contains}
use Rattle.base_words.specs.declared.op.Op.{Op}
use Rattle.base_notes.specs.declared.entry.Entry.{Entry}
use Rattle.flow_walks.specs.declared.visit.Visit.{Visit}
use Rattle.flow_walks.specs.Visited.{Visited, seen_visit}
use Rattle.print_hops.specs.declared.kind.Kind.{Kind}
use Rattle.print_hops.specs.KindsOf.{kind_of, same_kind, sums_of, waited_of}
use Rattle.print_hops.specs.Waits.{AreDearestFirst, alike}
use Rattle.print_hops.specs.WaitsText.{kind_line}
use Rattle.print_walks.specs.declared.waits.Waits.{Waits}
use Rattle.print_walks.specs.declared.waits.wait.Wait.{Wait}

-- the hops of a kind
abbrev pub of_kind : Kind → List Visit → List Visit
of_kind kind walk = filter (λ visit. same_kind kind (kind_of visit)) walk

-- ---- rows

-- the row of hops of one kind, where there are any
abbrev pub row_of : (Op → Entry) → ℕ → List Visit → Option Wait
row_of times angle [] = None
row_of times angle (first ∷ others) =
    Some (record { first = first; sums = sums_of times angle (map seen_visit (first ∷ others)) })

-- the first hop of a row's kind
abbrev pub first_of : Wait → Visited
first_of wait = seen_visit wait.first

abbrev pub firsts_of : Waits → List Visited
firsts_of waits = map first_of waits.rows.items

-- A row sums up the hops of a walk that are of its first one's kind.
abbrev pub IsSumOf : (Op → Entry) → ℕ → List Visited → Wait → Type 0
IsSumOf times angle walk wait = wait.sums ≡ sums_of times angle (alike (first_of wait) walk)

-- The rows are those of a walk, the dearest first, and beside them is what all its hops wait.
pub record AreWaits (times : Op → Entry) (angle : ℕ) (walk : List Visited) (waits : Waits) : Type 0
  where
    pub rows : (wait : Wait) → Contains waits.rows.items wait → IsSumOf times angle walk wait
    pub firsts : AreDearestFirst walk (firsts_of waits)
    pub waited : waits.waited ≡ waited_of times angle walk

-- ---- the text of a row

abbrev pub row_text : (Op → Entry) → ℕ → Wait → List ℕ
row_text times angle wait =
    kind_line times angle (first_of wait) wait.sums.visits wait.sums.time wait.sums.instruction
    wait.sums.operand
