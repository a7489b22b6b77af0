-- How often a walk can pass a mark at most.
use Rattle.std.specs.Prelude.{ℕ, ◌+◌, ◌*◌, ◌==◌, if◌then◌else◌, List, [], ◌∷◌}
use Rattle.base_notes.specs.declared.notes.mark.Mark.{Mark}
use Rattle.machine_steps.specs.Counts.{is_inside}

-- The factor of the mark with this index in the most passes of mark k. For k itself it is its most;
-- for a mark that k stands inside of its most and one, since k's count begins anew with each of
-- that mark's passes, and once at first; for any other mark 1.
abbrev pub factor : List Mark → ℕ → ℕ → ℕ → ℕ
factor all k index most =
    if index == k then most else (if is_inside all k index then most + 1 else 1)

-- the product over these marks, the first of which has this index
abbrev pub passes_from : List Mark → ℕ → ℕ → List Mark → ℕ
passes_from all k index [] = 1
passes_from all k index (mark ∷ marks) =
    factor all k index mark.most * passes_from all k (index + 1) marks

-- how often a walk can pass mark k at most
abbrev pub most_passes : List Mark → ℕ → ℕ
most_passes marks k = passes_from marks k 0 marks
