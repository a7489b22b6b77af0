-- How a shifting operation moves the accumulator's digits.
use Rattle.std.specs.Prelude.{ℕ}
use Rattle.base_words.specs.declared.op.shift.Shift.{Shift}
use Rattle.base_words.specs.declared.op.shift.Shift.TheVariants.{Right, Round, Left}

-- the number of the operation that shifts so
abbrev pub number_of : Shift → ℕ
number_of Right = 30
number_of Round = 31
number_of Left = 35
