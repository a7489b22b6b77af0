use Rattle.std.proofs.Common.{◌≡◌}
use Rattle.ceiling_rounds.proofs.order.Order.of.Given as goal

-- they are of these pieces
abbrev pub invariant-loop-number : goal.invariant-loop-number
invariant-loop-number l = l.order.pieces.now ≡ l.pieces
