use Rattle.std.proofs.Common.{arith}
use Rattle.base_words.proofs.Numerals.{not_digits, pow_fits}
use Rattle.base_words.proofs.numeral.read_digits.Goals as goal

pub overflow_mul-number : goal.overflow_mul-number
overflow_mul-number c = omega (arith, pow_fits c.loop-byte.byte-index (omega arith))

pub overflow_add-number : goal.overflow_add-number
overflow_add-number c = omega (arith, pow_fits c.loop-byte.byte-index (omega arith), c.in-Some.ensures.found)

pub returns-in_default-clause-none : goal.returns-in_default-clause-none
returns-in_default-clause-none c =
    not_digits c.args.text.now c.loop-byte.byte-index (omega arith) c.in_default.ensures.none
