use Rattle.std.proofs.Common.{◌+◌, ap}
use Rattle.read_decks.specs.Lines.{lines_of}
use Rattle.read_decks.proofs.Passing.{none_passed, one_passed}
use Rattle.read_decks.proofs.reading.Reading.next_fault.Goals as goal

pub loop-line-init : goal.loop-line-init
loop-line-init g c = record {
  passed = λ before counted holds.
      none_passed g.T.Taking.rules c.args.self.now.taking c.args.self.now.number
      (lines_of c.args.self.now.lines.rest.now) before counted holds;
}

pub loop-line-preserved : goal.loop-line-preserved
loop-line-preserved g c = record {
  passed = λ before counted holds.
      let p = c.loop-line.invariant.passed before counted holds in
      let next = c.in_ok-fault.ensures p.0 (ap (λ n. n + 1) p.2) p.3 in
      let sound = rw c.in_default-2.is at next in
      one_passed g.T.Taking.rules c.loop-line.self.taking c.take.new.self c.loop-line.self.number
      (lines_of c.args.self.now.lines.rest.now) (lines_of c.loop-line.self.lines.rest.now)
      (lines_of c.next.new.self.rest.now) c.in-Some.line.now before c.in-Some.ensures.steps p sound.0 sound.1 sound.2
      sound.3;
}

pub take-requires : goal.take-requires
take-requires g c =
    let p = c.loop-line.invariant.passed c.requires.0 c.requires.1 c.requires.2 in
    (p.0, ap (λ n. n + 1) p.2, p.3)
