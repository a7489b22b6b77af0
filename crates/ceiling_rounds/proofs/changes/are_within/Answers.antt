use Rattle.std.proofs.Common.{arith}
use Rattle.std.proofs.lemmas.Option.{slice_get_within}
use Rattle.ceiling_rounds.proofs.CountLaws.{within_each}
use Rattle.ceiling_rounds.proofs.changes.are_within.Goals as goal

pub returns : goal.returns
returns c = λ yes.
    within_each c.args.marks.now c.args.changes.now c.requires
    (λ k change mark at has. c.loop-index.invariant k change mark
    (omega (arith, slice_get_within c.args.marks.now k mark has, c.loop-index-test.false)) at has)
