use Rattle.std.proofs.Common.{ap, subst, sym, arith}
use Rattle.base_notes.specs.declared.notes.mark.Mark.{Mark}
use Rattle.machine_steps.specs.Counts.{AreWithin}
use Rattle.machine_steps.proofs.Within.{too_often, within_after}
use Rattle.machine_steps.proofs.counts.Counts.passed_mark.Goals as goal

pub returns-then-self-place-clause-counted : goal.returns-then-self-place-clause-counted
returns-then-self-place-clause-counted c =
    let most = ap (λ (m : Mark). m.most) c.index-marks-place.is in
    too_often c.args.marks.now c.args.self.passes c.args.place c.index-marks-place.result c.requires.inside
    c.index-marks-place.is (omega (arith, most))

pub returns-clause-within : goal.returns-clause-within
returns-clause-within c within =
    let marks = c.args.marks.now in
    let counts = c.args.self.passes in
    let most = ap (λ (m : Mark). m.most) c.index-marks-place.is in
    subst (AreWithin marks) (sym c.count_pass.ensures)
    (within_after marks counts c.args.place c.index-marks-place.result c.requires.inside c.index-marks-place.is
    (omega (arith, most)) within)
