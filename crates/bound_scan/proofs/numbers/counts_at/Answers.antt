use Rattle.std.proofs.Common.{◌-◌, ◌+◌, ◌%◌, ◌∙◌, get_or, arith}
use Rattle.std.proofs.lemmas.List.{length-set}
use Rattle.bound_scan.proofs.CountLoops.{leads_more, leads_all}
use Rattle.bound_scan.proofs.numbers.counts_at.Goals as goal

pub loop-place-preserved : goal.loop-place-preserved
loop-place-preserved c =
    let marks = c.args.marks.now in
    let place = c.loop-place.place - 1 in
    let d = c.index-marks-place.result in
    let places = c.loop-place.invariant.places in
    record {
      taken = leads_more marks place c.loop-place.place d c.loop-place.passes c.loop-place.rest c.args.number
          (omega arith) (omega arith) (omega (arith, places)) c.loop-place.invariant.taken;
      places = length-set c.loop-place.passes place (c.loop-place.rest % ((get_or marks place d).most + 1)) ∙ places;
    }

pub returns : goal.returns
returns c = leads_all c.args.marks.now c.loop-place.place c.loop-place.passes c.loop-place.rest c.args.number
    c.loop-place-test.false c.loop-place.invariant.taken c.requires.below
