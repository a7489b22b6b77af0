-- How often marks are passed, counted since the last pass of a mark that they stand inside of.
use Rattle.std.specs.Prelude.{ℕ, zero, suc, ◌+◌, ◌≤◌, ◌==◌, Bool, false, ◌||◌, if◌then◌else◌, List}
use Rattle.std.specs.Prelude.{[], ◌∷◌, map, length, slice_get, Option, Some, None}
use Rattle.base_notes.specs.declared.notes.mark.Mark.{Mark}
use Rattle.base_notes.specs.Marks.{mark_on}

-- the mark that a mark stands inside of, by their indices
abbrev pub outer_of : Option Mark → Option ℕ
outer_of None = None
outer_of (Some mark) = mark.inside

-- the mark with this index stands inside the one with another, as many steps outward at most as the
-- number says
abbrev pub is_inside_by : ℕ → List Mark → ℕ → ℕ → Bool
is_inside_by zero marks inner outer = false
is_inside_by (suc more) marks inner outer =
    elim (outer_of (slice_get marks inner)) [
      | None ↦ false
      | Some next ↦ next == outer || is_inside_by more marks next outer
    ]

-- directly or through others: a mark stands inside of an earlier one alone, so there are fewer
-- steps than marks
abbrev pub is_inside : List Mark → ℕ → ℕ → Bool
is_inside marks inner outer = is_inside_by (length marks) marks inner outer

-- the counts after a pass of the mark with this index: one more of it, none of the marks inside it
abbrev pub passed_from : List Mark → ℕ → ℕ → List ℕ → List ℕ
passed_from marks passed index [] = []
passed_from marks passed index (count ∷ counts) =
    (if index == passed then count + 1 else (if is_inside marks index passed then 0 else count))
    ∷ passed_from marks passed (index + 1) counts

-- the counts after a step from one location to another
abbrev pub after_pass : List Mark → ℕ → ℕ → List ℕ → List ℕ
after_pass marks from onto counts =
    elim (mark_on marks from onto) [
      | None ↦ counts
      | Some passed ↦ passed_from marks passed 0 counts
    ]

-- nothing passed yet
abbrev pub no_counts : List Mark → List ℕ
no_counts marks = map (λ _. 0) marks

-- no mark is passed more often than it may be
abbrev pub AreWithin : List Mark → List ℕ → Type 0
AreWithin [] [] = Unit {0}
AreWithin (mark ∷ marks) (count ∷ counts) = (count ≤ mark.most) × AreWithin marks counts
AreWithin [] (count ∷ counts) = ⊥
AreWithin (mark ∷ marks) [] = ⊥
