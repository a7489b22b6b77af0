-- Of Step::charge: mark by mark what it is charged; where it stays in its regions, nothing.
use Rattle.std.proofs.Common.{◌≡◌, ◌*◌, ℕ, ap, ◌∙◌, arith}
use Rattle.std.specs.Prelude.{not, if◌then◌else◌, slice_index}
use Rattle.ceiling_checked.specs.Charge.{owed_anew}
use Rattle.ceiling_checked.specs.AtSite.{is_in}
use Rattle.ceiling_checked.proofs.Charged.{charge_more, stays}
use Rattle.ceiling_checked.proofs.step.Step.charge.Goals as goal

pub returns-then-self : goal.returns-then-self
returns-then-self c =
    let own = c.args.self.now in
    stays own.marks.now own.here own.there own.passed c.args.prices.now
    (c.is_none.ensures ∙ ap not c.if-is_none.true) c.if-self.true

pub loop-index-preserved : goal.loop-index-preserved
loop-index-preserved c =
    let own = c.args.self.now in
    let marks = own.marks.now in
    let prices = c.args.prices.now in
    let index = c.loop-index.index in
    let more = charge_more marks (is_in own.here) (is_in own.there) own.passed marks prices index c.mark-item.result
    c.loop-index-test.true c.mark-item.is (omega (arith, c.requires, c.loop-index-test.true)) in
    let head : c.in_ok-checked_mul.field-0 ≡ slice_index prices index
    * (if is_in own.there index then owed_anew marks own.passed (is_in own.here index) index c.mark-item.result.most else 0) =
    c.in_ok-checked_mul.ensures.1 ∙ ap (λ (n : ℕ). slice_index prices index * n) (c.from-passes.ensures ∙ c.owed.ensures) in
    omega (arith, c.loop-index.invariant, more, head, c.in_ok-charge.ensures.1)
