-- Keys: an index in an order of the executed locations, and counts of the marks, as one number. The
-- counts, read with the first mark's leading, are the whole part of its division by the number of
-- locations, and the index is the rest.
use Rattle.std.specs.Prelude.{◌≡◌, ℕ, ◌*◌, ◌/◌, ◌%◌, ◌<◌, ◌≤◌, List, [], length, slice_index}
use Rattle.std.specs.Prelude.{Contains, Option}
use Rattle.base_words.specs.declared.word.Word.{Word}
use Rattle.base_notes.specs.declared.notes.mark.Mark.{Mark}
use Rattle.base_notes.specs.Allowed.{Notes, AreSound}
use Rattle.base_graphs.specs.Graph.{AreDifferent, GoOn}
use Rattle.flow_graph.specs.Accepted.{counts_of, IsFree}
use Rattle.flow_graph.specs.Hops.{IsEdge}
use Rattle.bound_scan.specs.Digits.{digits}

-- how many keys there are
abbrev pub keys_of : List Mark → List ℕ → ℕ
keys_of marks order = counts_of marks * length order

-- the location of a key
abbrev pub place_at : List ℕ → ℕ → ℕ
place_at order key = slice_index order (key % length order)

-- the counts of a key
abbrev pub counts_at : List Mark → List ℕ → ℕ → List ℕ
counts_at marks order key = digits marks (key / length order)

-- The key is that of this location and these counts.
pub record IsKey (marks : List Mark) (order : List ℕ) (key place : ℕ) (counts : List ℕ) : Type
    0 where
  pub below : key < keys_of marks order
  pub at : place_at order key ≡ place
  pub passed : counts_at marks order key ≡ counts

-- What is so of the order: it has the start, no location twice, and with each location those that
-- its hops go on at; an edge that no mark stands on leads to a later location; the notes are sound
-- and without calls, and the keys few.
pub record IsOrdered (loads : ℕ → Option Word) (notes : Notes) (start : ℕ) (order : List ℕ) : Type
    0 where
  pub starts : Contains order start
  pub different : AreDifferent order
  pub closed : (place next : ℕ) → Contains order place → IsEdge loads notes place next
      → Contains order next
  pub onward : GoOn (IsFree loads notes) order
  pub sound : AreSound notes
  pub plain : notes.calls ≡ []
  pub few : keys_of notes.marks order ≤ 4000000
