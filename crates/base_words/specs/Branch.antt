-- What a branching operation tests.
use Rattle.std.specs.Prelude.{ℕ}
use Rattle.base_words.specs.declared.op.branch.Branch.{Branch}
use Rattle.base_words.specs.declared.op.branch.Branch.TheVariants.{UpperNonZero, NonZero, Minus}
use Rattle.base_words.specs.declared.op.branch.Branch.TheVariants.{Overflow}

-- the number of the operation that tests it
abbrev pub number_of : Branch → ℕ
number_of UpperNonZero = 44
number_of NonZero = 45
number_of Minus = 46
number_of Overflow = 47
