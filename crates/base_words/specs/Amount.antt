-- What is made of the word at D before an operation adds it.
use Rattle.std.specs.Prelude.{ℕ}
use Rattle.base_words.specs.declared.op.amount.Amount.{Amount}
use Rattle.base_words.specs.declared.op.amount.Amount.TheVariants.{Upper, MinusUpper, Lower}
use Rattle.base_words.specs.declared.op.amount.Amount.TheVariants.{MinusLower, AbsoluteLower}
use Rattle.base_words.specs.declared.op.amount.Amount.TheVariants.{MinusAbsoluteLower}

-- the number of the operation that adds it, and doesn't reset the accumulator
abbrev pub number_of : Amount → ℕ
number_of Upper = 10
number_of MinusUpper = 11
number_of Lower = 15
number_of MinusLower = 16
number_of AbsoluteLower = 17
number_of MinusAbsoluteLower = 18
