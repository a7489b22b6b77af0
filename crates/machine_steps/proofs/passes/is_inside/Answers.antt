use Rattle.std.proofs.Common.{◌∙◌, arith}
use Rattle.std.proofs.lemmas.Bool.{ne_eqb}
use Rattle.machine_steps.proofs.Passing.{inside_outward}
use Rattle.machine_steps.proofs.passes.is_inside.Goals as goal

pub loop-preserved : goal.loop-preserved
loop-preserved c =
    inside_outward c.args.marks.now c.loop.counter c.loop.place c.in-Some.next c.args.outer (omega arith)
    c.in-Some.ensures (ne_eqb _ _ c.if-next-outer.false) ∙ c.loop.invariant
