use Rattle.std.proofs.Common.{◌≡◌, [], Some, take, sym, subst}
use Rattle.flow_walks.specs.declared.piece.Piece.{Piece}
use Rattle.ceiling_rounds.specs.Order.{through_behind, through_by}
use Rattle.ceiling_rounds.specs.OrderOf.{first_in}
use Rattle.ceiling_rounds.proofs.OrderLaws.{through_more}
use Rattle.ceiling_rounds.proofs.order.Order.are_next.Goals as goal

pub loop-number-preserved : goal.loop-number-preserved
loop-number-preserved c =
    let own = c.args.self.now in
    let pieces = own.pieces.now in
    let k = c.loop-number.number in
    let before = through_behind [] (take k pieces) in
    through_more own.firsts.items pieces k c.index-self-number.result c.loop-number-test.true c.index-self-number.is
    c.loop-number.invariant
    (subst (λ (one : Piece). through_by before one (first_in own.firsts.items k) ≡ Some k) (sym c.index-self-number.is)
    (c.is_next.ensures c.if-not-is_next.false before c.loop-number.invariant))
