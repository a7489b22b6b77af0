use Rattle.std.proofs.Common.{take, length, arith}
use Rattle.flow_graph.specs.Passes.{leading}
use Rattle.bound_scan.proofs.CountLoops.{leading_more, leading_small}
use Rattle.bound_scan.proofs.numbers.leading.Goals as goal

pub overflow_mul-number : goal.overflow_mul-number
overflow_mul-number c =
    let small = leading_small c.args.marks.now c.loop-place.place c.index-marks-place.result c.args.counts.passes
    c.loop-place.number (omega arith) (omega arith) c.requires.within c.loop-place.invariant in
    omega (arith, small, c.requires.small)

pub overflow_add-number-in-loop-place : goal.overflow_add-number-in-loop-place
overflow_add-number-in-loop-place c =
    let small = leading_small c.args.marks.now c.loop-place.place c.index-marks-place.result c.args.counts.passes
    c.loop-place.number (omega arith) (omega arith) c.requires.within c.loop-place.invariant in
    omega (arith, small, c.requires.small)

pub loop-place-preserved : goal.loop-place-preserved
loop-place-preserved c =
    let marks = c.args.marks.now in
    let counts = c.args.counts.passes in
    leading_more marks c.loop-place.place c.index-marks-place.result counts c.loop-place.number
    (leading marks (take (length marks) counts)) (omega arith) (omega arith) c.loop-place.invariant
