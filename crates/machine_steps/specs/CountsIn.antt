-- The counts of marks that the code holds.
use Rattle.std.specs.Prelude.{ℕ, List, take, length}
use Rattle.base_notes.specs.declared.notes.mark.Mark.{Mark}
use Rattle.machine_steps.specs.declared.counts.Counts.{Counts}

-- the counts of these marks, in their order
abbrev pub counts_in : Counts → List Mark → List ℕ
counts_in held marks = take (length marks) held.passes
