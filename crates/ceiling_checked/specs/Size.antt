-- What no ceiling is above, neither its total nor a price: the nodes of the flow graph (without
-- calls these are the executed words), times the longest step from one, times one more than the
-- passes that a walk has at most of all marks together.
use Rattle.std.specs.Prelude.{ℕ, ◌+◌, ◌*◌, ◌≤◌, List, [], ◌∷◌, length}
use Rattle.base_notes.specs.declared.notes.mark.Mark.{Mark}
use Rattle.flow_graph.specs.Executed.{each_place}
use Rattle.flow_graph.specs.Hops.{Node}
use Rattle.flow_graph.specs.MostPasses.{most_passes}
use Rattle.flow_graph.specs.Walk.{Setting}
use Rattle.ceiling_rows.specs.Steps.{TakesAtMost}

-- how often a walk can pass these of all marks at most, together; the first has this index
abbrev pub passes_together : List Mark → ℕ → List Mark → ℕ
passes_together all index [] = 0
passes_together all index (mark ∷ marks) =
    most_passes all index + passes_together all (index + 1) marks

-- so many nodes, times the longest step, times one more than all passes
abbrev pub size_of : List Mark → ℕ → ℕ → ℕ
size_of marks nodes most = nodes * most * (1 + passes_together marks 0 marks)

-- the number is no more than that, by every number that no step takes more than
abbrev pub IsWithinSize : Setting → List Node → ℕ → Type 0
IsWithinSize g nodes number = (most : ℕ) → TakesAtMost g (each_place nodes) most
    → number ≤ size_of g.notes.marks (length nodes) most
