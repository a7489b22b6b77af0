use Rattle.std.proofs.Common.{◌+◌, ◌-◌, ◌%◌, sym, ◌∙◌, arith}
use Rattle.machine_steps.specs.WaysLeft.{seen_way}
use Rattle.ceiling_rows.proofs.LastEnds.{slowest_of}
use Rattle.ceiling_rows.proofs.found.Found.slowest.Goals as goal

pub returns : goal.returns
returns c =
    let angle = c.slowest_angle-angle.result in
    let start = c.args.start in
    slowest_of c.args.self.now c.args.pattern (seen_way c.args.way) start c.args.end
    (start + (angle + 50 - start % 50) % 50) angle c.in_ok-of.field-0 (sym c.of.ensures.listed ∙ c.in_ok-of.was)
    c.requires.within c.requires.part c.if-end-start.false c.slowest_angle-angle.ensures.slowest
    (omega (arith, c.slowest_angle-angle.ensures.on_drum)) (omega arith) (omega (arith, c.if-end-start.false))
    (c.goes_beside.ensures c.if-goes_beside.false)
