-- What a step costs by the regions of the marks, at the costliest counts that allow it.
use Rattle.std.specs.Prelude.{ℕ, ◌+◌, ◌-◌, ◌*◌, ◌==◌, if◌then◌else◌, Bool, List, [], ◌∷◌}
use Rattle.std.specs.Prelude.{slice_index, Option, Some, None}
use Rattle.base_notes.specs.declared.notes.mark.Mark.{Mark}
use Rattle.machine_steps.specs.Counts.{is_inside}

-- How many passes of the mark with this index, and this most, a step may owe anew that ends in its
-- region: all of them, where it didn't begin there, or passes a mark that this one stands inside
-- of; but one less of the mark that it passes itself, from outside, and none from inside.
abbrev pub owed_by_pass : List Mark → Bool → ℕ → ℕ → ℕ → ℕ
owed_by_pass all here passed index most =
    if index == passed then (if here then 0 else most - 1)
    else (if is_inside all index passed then most else (if here then 0 else most))

abbrev pub owed_anew : List Mark → Option ℕ → Bool → ℕ → ℕ → ℕ
owed_anew all None here index most = if here then 0 else most
owed_anew all (Some passed) here index most = owed_by_pass all here passed index most

-- what these marks, the first of which has this index, charge for a step by which a mark is passed,
-- if one is, from where the regions are `here` to where they are `there`
abbrev pub charge_from : List Mark → (ℕ → Bool) → (ℕ → Bool) → Option ℕ → ℕ → List Mark → List ℕ
    → ℕ
charge_from all here there passed index [] prices = 0
charge_from all here there passed index (mark ∷ marks) [] = 0
charge_from all here there passed index (mark ∷ marks) (price ∷ prices) =
    price * (if there index then owed_anew all passed (here index) index mark.most else 0)
    + charge_from all here there passed (index + 1) marks prices

-- what the mark that is passed pays: its price, where the step begins in its region
abbrev pub paid_by : (ℕ → Bool) → List ℕ → Option ℕ → ℕ
paid_by here prices None = 0
paid_by here prices (Some passed) = if here passed then slice_index prices passed else 0
