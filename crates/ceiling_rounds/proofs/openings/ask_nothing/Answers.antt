use Rattle.std.proofs.Common.{◌≡◌, ◌+◌, suc, ℕ, Some, take, sym, subst, ap, ◌∙◌, arith}
use Rattle.std.specs.Prelude.{slice_get}
use Rattle.std.proofs.lemmas.Option.{slice_get-get_or}
use Rattle.machine_steps.specs.Calls.{none_open}
use Rattle.ceiling_rounds.specs.Opening.{Meet}
use Rattle.ceiling_rounds.proofs.OpeningLaws.{closed_more}
use Rattle.ceiling_rounds.proofs.openings.ask_nothing.Goals as goal

pub loop-opening-preserved : goal.loop-opening-preserved
loop-opening-preserved c = λ calls.
    let openings = c.args.openings.now in
    let k = c.loop-opening.opening-index in
    let opening = c.opening-item.result in
    let later : suc k ≡ k + 1 = omega arith in
    let at : slice_get openings k ≡ Some opening =
    slice_get-get_or openings k opening c.loop-opening-test.true ∙ ap Some (sym c.opening-item.is) in
    subst (λ (n : ℕ). Meet (take n openings) (none_open calls)) later
    (closed_more openings k opening calls at (c.loop-opening.invariant calls)
    (c.asks_nothing.ensures c.if-not-asks_nothing.false))
