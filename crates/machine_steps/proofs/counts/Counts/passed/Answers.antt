use Rattle.std.proofs.Common.{length, take}
use Rattle.machine_steps.proofs.Within.{along}
use Rattle.machine_steps.proofs.counts.Counts.passed.Goals as goal

pub returns-in-Some-clause-counted : goal.returns-in-Some-clause-counted
returns-in-Some-clause-counted c =
    along c.args.marks.now c.args.from.number c.args.onto.number c.in-Some.place
    (take (length c.args.marks.now) c.args.self.passes) c.passed_mark.result c.in-Some.ensures.value
    c.passed_mark.ensures.counted
