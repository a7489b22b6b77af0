-- What no ceiling is above, as the code has it.
use Rattle.std.specs.Prelude.{◌≡◌, ℕ, ◌+◌, ◌*◌, ◌^◌, ◌<◌, ◌≤◌, List}
use Rattle.base_notes.specs.declared.notes.mark.Mark.{Mark}
use Rattle.flow_graph.specs.Accepted.{capped}
use Rattle.ceiling_checked.specs.declared.size.Size.{Size}
use Rattle.ceiling_checked.specs.InRounds.{passes_in_all, AreInRounds}
use Rattle.ceiling_checked.specs.Size.{size_of}

-- It is that of so many nodes, below 2^64, and this longest step, by the passes in a round of each
-- of the marks: no more than the size, since these are no more passes than a walk has at most.
pub record IsSizeBy (marks : List Mark) (nodes longest : ℕ) (size : Size) : Type 0 where
  pub rounds : AreInRounds capped marks size.rounds.items
  pub passes : size.passes ≡ capped (passes_in_all marks size.rounds.items)
  pub unit : size.unit ≡ nodes * longest
  pub whole : size.whole ≡ capped (size.unit * capped (1 + size.passes))
  pub low : size.whole ≤ size_of marks nodes longest
  pub few : nodes < 2 ^ 64
