-- Notes with more marks.
use Rattle.std.specs.Prelude.{◌≡◌, ℕ, IsNone, IsSome, List, Contains}
use Rattle.base_notes.specs.Allowed.{Notes}
use Rattle.base_notes.specs.Marks.{mark_on}

-- The notes say the same as others but for their marks: each edge that had a mark has one, and so
-- has each of these edges.
pub record AreMarked (notes : Notes) (edges : List (ℕ × ℕ)) (marked : Notes) : Type 0 where
  pub programmed : marked.programmed ≡ notes.programmed
  pub load_cards : marked.load_cards ≡ notes.load_cards
  pub lists : marked.lists ≡ notes.lists
  pub calls : marked.calls ≡ notes.calls
  pub kept : (from onto : ℕ) → IsNone (mark_on marked.marks from onto)
      → IsNone (mark_on notes.marks from onto)
  pub marks : (from onto : ℕ) → Contains edges (from, onto)
      → IsSome (mark_on marked.marks from onto)
