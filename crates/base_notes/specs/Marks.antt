-- On which edges marks stand.
use Rattle.std.specs.Prelude.{ℕ, ◌+◌, Bool, if◌then◌else◌, List, [], ◌∷◌, Option, Some, None}
use Rattle.std.specs.List.{list_any}
use Rattle.base_notes.specs.declared.notes.mark.Mark.{Mark}
use Rattle.base_notes.specs.Edges.{leads}

-- the edges of a mark: its first, and the others
abbrev pub edges_of : Mark → List (ℕ × ℕ)
edges_of mark = (mark.from.number, mark.onto.number) ∷ mark.others

-- the mark stands on this edge
abbrev pub is_on : Mark → ℕ → ℕ → Bool
is_on mark from onto = list_any (leads from onto) (edges_of mark)

-- the index of the mark on an edge, if there is one, the first of these marks having this index
abbrev pub mark_from : ℕ → List Mark → ℕ → ℕ → Option ℕ
mark_from index [] from onto = None
mark_from index (mark ∷ marks) from onto =
    if is_on mark from onto then Some index else mark_from (index + 1) marks from onto

abbrev pub mark_on : List Mark → ℕ → ℕ → Option ℕ
mark_on marks from onto = mark_from 0 marks from onto
