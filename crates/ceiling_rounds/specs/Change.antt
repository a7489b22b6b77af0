-- What hops do to the counts of marks.
use Rattle.std.specs.Prelude.{◌≡◌, ℕ, ◌+◌, ◌*◌, max, List, [], ◌∷◌, slice_get, Some}
use Rattle.ceiling_rounds.specs.declared.change.Change.{Change}
use Rattle.ceiling_rounds.specs.declared.change.Change.TheVariants.{Rise, SetBack}

-- what a count becomes
abbrev pub count_after : Change → ℕ → ℕ
count_after (Rise by) count = count + by
count_after (SetBack passes rise highest last) count = last

-- the most that it is on the way there, or more
abbrev pub peak : Change → ℕ → ℕ
peak (Rise by) count = count + by
peak (SetBack passes rise highest last) count = max (count + rise) highest

-- how often the mark is passed
abbrev pub passes_by : Change → ℕ
passes_by (Rise by) = by
passes_by (SetBack passes rise highest last) = passes

-- what two changes come to, one after the other
abbrev pub followed : Change → Change → Change
followed (Rise by) (Rise more) = Rise (by + more)
followed (Rise by) (SetBack passes rise highest last) =
    SetBack (by + passes) (by + rise) highest last
followed (SetBack passes rise highest last) next =
    SetBack (passes + passes_by next) rise (max highest (peak next last)) (count_after next last)

-- what so many rounds come to, one at least
abbrev pub over_rounds : ℕ → Change → Change
over_rounds times (Rise by) = Rise (times * by)
over_rounds times (SetBack passes rise highest last) =
    SetBack (times * passes) rise (max highest (last + rise)) last

-- the same of the counts of all marks
abbrev pub counts_after : List Change → List ℕ → List ℕ
counts_after [] counts = counts
counts_after (change ∷ changes) [] = []
counts_after (change ∷ changes) (count ∷ counts) =
    count_after change count ∷ counts_after changes counts

abbrev pub peaks : List Change → List ℕ → List ℕ
peaks [] counts = counts
peaks (change ∷ changes) [] = []
peaks (change ∷ changes) (count ∷ counts) = peak change count ∷ peaks changes counts

abbrev pub all_followed : List Change → List Change → List Change
all_followed [] others = []
all_followed (change ∷ changes) [] = []
all_followed (change ∷ changes) (other ∷ others) =
    followed change other ∷ all_followed changes others

-- the change is what those at an index come to, one after the other
abbrev pub AreFollowedAt : List Change → List Change → ℕ → Change → Type 0
AreFollowedAt changes others index both =
    (one : Change) × (slice_get changes index ≡ Some one) × ((other : Change)
    × (slice_get others index ≡ Some other) × (both ≡ followed one other))
