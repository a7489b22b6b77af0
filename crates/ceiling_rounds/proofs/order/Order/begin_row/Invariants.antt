use Rattle.std.proofs.Common.{◌≡◌}
use Rattle.ceiling_rounds.proofs.order.Order.begin_row.Given as goal

-- the pieces stay as they are
abbrev pub invariant-loop-number : goal.invariant-loop-number
invariant-loop-number l = l.self.pieces.now ≡ l.fn.self.pieces.now
