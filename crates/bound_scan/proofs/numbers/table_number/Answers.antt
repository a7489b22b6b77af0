use Rattle.std.proofs.Common.{◌-◌, arith}
use Rattle.bound_scan.proofs.CountLoops.{number_more, number_small}
use Rattle.bound_scan.proofs.numbers.table_number.Goals as goal

pub overflow_mul-number : goal.overflow_mul-number
overflow_mul-number c =
    let small = number_small c.args.marks.now (c.loop-place.place - 1) c.loop-place.place c.index-marks-place.result
    c.args.counts.passes c.loop-place.number (omega arith) (omega arith) (omega arith) c.requires.within
    c.loop-place.invariant in
    omega (arith, small, c.requires.small)

pub overflow_add-number-in-loop-place : goal.overflow_add-number-in-loop-place
overflow_add-number-in-loop-place c =
    let small = number_small c.args.marks.now (c.loop-place.place - 1) c.loop-place.place c.index-marks-place.result
    c.args.counts.passes c.loop-place.number (omega arith) (omega arith) (omega arith) c.requires.within
    c.loop-place.invariant in
    omega (arith, small, c.requires.small)

pub loop-place-preserved : goal.loop-place-preserved
loop-place-preserved c =
    number_more c.args.marks.now (c.loop-place.place - 1) c.loop-place.place c.index-marks-place.result
    c.args.counts.passes c.loop-place.number (omega arith) (omega arith) (omega arith) c.loop-place.invariant
