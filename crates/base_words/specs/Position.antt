-- A digit's position in a word: the first is the units, the tenth the leftmost.
use Rattle.std.specs.Prelude.{ℕ}
use Rattle.base_words.specs.declared.op.position.Position.{Position}
use Rattle.base_words.specs.declared.op.position.Position.TheVariants.{First, Second, Third, Fourth}
use Rattle.base_words.specs.declared.op.position.Position.TheVariants.{Fifth, Sixth, Seventh, Eighth}
use Rattle.base_words.specs.declared.op.position.Position.TheVariants.{Ninth, Tenth}

-- the number of the operation that tests it: 91 to 99, and 90 for the tenth
abbrev pub number_of : Position → ℕ
number_of First = 91
number_of Second = 92
number_of Third = 93
number_of Fourth = 94
number_of Fifth = 95
number_of Sixth = 96
number_of Seventh = 97
number_of Eighth = 98
number_of Ninth = 99
number_of Tenth = 90
