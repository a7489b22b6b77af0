use Rattle.std.proofs.Common.{◌<◌, length, arith}
use Rattle.read_faults.proofs.Passed.{one_passed}
use Rattle.read_faults.proofs.first_past.first_past.Goals as goal

pub loop-line-preserved : goal.loop-line-preserved
loop-line-preserved c = record {
  passed =
      one_passed (λ line. c.args.longest < length line) c.args.text.now c.loop-line.line-iterator.rest.now
      c.next.new.self.rest.now c.in-Some.line.now c.loop-line.number c.loop-line.invariant.passed
      c.in-Some.ensures.steps (λ long. omega (arith, c.if-line-longest.false, long));
  few = omega (arith, c.if-number-most.false);
}
