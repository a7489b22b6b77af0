use Rattle.std.proofs.Common.{ℕ, List, Option, get_or, take, ap, ◌∙◌}
use Rattle.std.proofs.lemmas.List.{take_more}
use Rattle.ceiling_rounds.specs.Order.{on_from, through_at, through_row}
use Rattle.ceiling_rounds.proofs.OrderLaws.{row_more}
use Rattle.ceiling_rounds.proofs.order.Order.row.Goals as goal

pub loop-number-preserved : goal.loop-number-preserved
loop-number-preserved c before are =
    let names = c.args.names.now in
    let k = c.loop-number.number-index in
    let number : ℕ = get_or names k 0 in
    ap (λ (ns : List ℕ). through_row before ns c.args.ended) (take_more names k 0 c.loop-number-test.true)
    ∙ row_more before (take k names) number c.args.ended
    ∙ ap (λ (o : Option ℕ). on_from o (through_at before number)) (c.loop-number.invariant before are)
    ∙ c.in_ok-ended.ensures before are
