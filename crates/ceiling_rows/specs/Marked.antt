-- Where hops lead, and the marks that they pass.
use Rattle.std.specs.Prelude.{◌≡◌, ℕ, List, Option, None}
use Rattle.base_notes.specs.declared.notes.mark.Mark.{Mark}
use Rattle.base_notes.specs.Marks.{mark_on}
use Rattle.machine_steps.specs.Ways.{Way, early, to, late}

-- the mark on the edge by which a hop of the place goes on, if it does
abbrev pub mark_by : List Mark → ℕ → Way → Option ℕ
mark_by marks place early = None
mark_by marks place (to next) = mark_on marks place next
mark_by marks place late = None

-- by this way a hop doesn't go on
abbrev pub LeadsNowhere : Way → Type 0
LeadsNowhere way = (next : ℕ) → way ≡ to next → ⊥
