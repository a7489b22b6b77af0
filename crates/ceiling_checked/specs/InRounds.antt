-- How many passes there are at most in one round of each mark: its own, and those of the marks
-- inside of it.
use Rattle.std.specs.Prelude.{◌≡◌, ℕ, ◌+◌, ◌*◌, ◌<◌, ◌==◌, if◌then◌else◌, List, [], ◌∷◌, length}
use Rattle.std.specs.Prelude.{slice_index}
use Rattle.base_notes.specs.declared.notes.mark.Mark.{Mark}
use Rattle.machine_steps.specs.Counts.{is_inside}

-- in one round of a mark, those of the marks inside of it among these, the first of which has this
-- index, by the passes in a round of each
abbrev pub passes_inside : List Mark → ℕ → ℕ → List Mark → List ℕ → ℕ
passes_inside all outer index [] rounds = 0
passes_inside all outer index (mark ∷ marks) [] = 0
passes_inside all outer index (mark ∷ marks) (round ∷ rounds) =
    (if is_inside all index outer then mark.most * round else 0)
    + passes_inside all outer (index + 1) marks rounds

-- all passes, by the passes in a round of each
abbrev pub passes_in_all : List Mark → List ℕ → ℕ
passes_in_all [] rounds = 0
passes_in_all (mark ∷ marks) [] = 0
passes_in_all (mark ∷ marks) (round ∷ rounds) = mark.most * round + passes_in_all marks rounds

-- what a pass of each mark costs, so much for each pass in a round of it, or what is told of that;
-- nothing where the mark may never be passed
abbrev pub priced : (ℕ → ℕ) → ℕ → List Mark → List ℕ → List ℕ
priced told unit [] rounds = []
priced told unit (mark ∷ marks) [] = []
priced told unit (mark ∷ marks) (round ∷ rounds) =
    (if mark.most == 0 then 0 else told (unit * round)) ∷ priced told unit marks rounds

-- Each number is that of its mark, or what is told of it.
pub record AreInRounds (told : ℕ → ℕ) (marks : List Mark) (rounds : List ℕ) : Type 0 where
  pub long : length rounds ≡ length marks
  pub each : (k : ℕ) → k < length marks
      → slice_index rounds k ≡ told (1 + passes_inside marks k 0 marks rounds)
