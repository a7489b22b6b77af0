-- Of has_start: no line so far says where to start, so the line at hand is a first one that does,
-- or at the end there is none.
use Rattle.std.proofs.Common.{◌+◌, sym, ap, refl}
use Rattle.read_decks.specs.declared.deck.lines.Lines.{Lines}
use Rattle.read_faults.specs.DeckFaults.{SaysStart}
use Rattle.read_faults.proofs.Passed.{none_passed, one_passed, found_here, none_found}
use Rattle.read_faults.proofs.faults_of_deck.has_start.Goals as goal

pub loop-line-init : goal.loop-line-init
loop-line-init c = record {
  passed = (
    0,
    none_passed SaysStart c.args.text.now c.into_iter-line-iterator.result.rest.now
        (ap (λ (lines : Lines). lines.rest.now) (sym c.into_iter-line-iterator.ensures.into_iter_gives)),
  );
}

pub loop-line-preserved : goal.loop-line-preserved
loop-line-preserved c =
    let p = c.loop-line.invariant.passed in
    record {
      passed = (
        p.0 + 1,
        one_passed SaysStart c.args.text.now c.loop-line.line-iterator.rest.now c.next.new.self.rest.now
            c.in-Some.line.now p.0 p.1 c.in-Some.ensures.steps (λ says. let h = c.if-says_start.ensures.1 says in cc (h)),
      );
    }

pub returns : goal.returns
returns c =
    let p = c.loop-line.invariant.passed in (
      λ found. cc (found),
      λ has. absurd (none_found SaysStart c.args.text.now c.loop-line.line-iterator.rest.now p.0 p.1
          c.in-None.ensures.steps.0 has),
    )

pub returns-then-says_start : goal.returns-then-says_start
returns-then-says_start c =
    let p = c.loop-line.invariant.passed in
    let says : SaysStart c.in-Some.line.now = c.says_start.ensures.0 c.if-says_start.true in (
      λ found. found_here SaysStart c.args.text.now c.loop-line.line-iterator.rest.now c.next.new.self.rest.now
          c.in-Some.line.now p.0 p.1 c.in-Some.ensures.steps says,
      λ has. refl,
    )
