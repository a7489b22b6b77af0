-- A number read as counts of marks.
use Rattle.std.specs.Prelude.{ℕ, ◌/◌, ◌%◌, List, [], ◌∷◌}
use Rattle.base_notes.specs.declared.notes.mark.Mark.{Mark}
use Rattle.flow_graph.specs.Accepted.{counts_of}

-- the counts that a number with the first mark's leading stands for
abbrev pub digits : List Mark → ℕ → List ℕ
digits [] n = []
digits (mark ∷ marks) n = n / counts_of marks ∷ digits marks (n % counts_of marks)
