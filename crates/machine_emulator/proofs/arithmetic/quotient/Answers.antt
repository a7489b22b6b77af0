use Rattle.std.proofs.Common.{◌/◌, ◌^◌, ◌<◌, ℕ, FitsSigned, arith, rules}
use Rattle.std.proofs.Math.Nat.{div-lt_iff_lt-mul}
use Rattle.std.proofs.lemmas.Bool.{leb-false}
use Rattle.std.proofs.lemmas.Int.{to_z-of_z}
use Rattle.machine_emulator.proofs.arithmetic.quotient.Goals as goal
use mir.Syntax.{w128}

-- a divisor above the upper half goes into the whole less than 10^10 times
short : (size by : ℕ) → size / 10 ^ 10 < by → size / by < 10 ^ 10
short size by above = (div-lt_iff_lt-mul {k = by} {x = size} {y = 10 ^ 10} (omega arith)).1 (omega arith)

pub returns-clause-half : goal.returns-clause-half
returns-clause-half c =
    let whole : FitsSigned w128 c.args.accumulator = search rules in
    let by_fits : FitsSigned w128 c.args.number = search rules in
    let above = leb-false _ _ c.requires.fits in
    let size = simp to_z-of_z at c.unsigned_abs.ensures.value in
    let by = simp to_z-of_z at c.unsigned_abs-2.ensures.value in
    short c.unsigned_abs.result c.unsigned_abs-2.result (omega (arith, above, size, by))
