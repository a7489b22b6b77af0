use Rattle.std.proofs.Common.{[], take}
use Rattle.ceiling_rounds.specs.Order.{through_behind}
use Rattle.ceiling_rounds.specs.OrderOf.{AreThrough}
use Rattle.ceiling_rounds.proofs.order.Order.are_next.Given as goal

-- so is each so far
abbrev pub invariant-loop-number : goal.invariant-loop-number
invariant-loop-number l =
    AreThrough l.self.firsts.items l.number (through_behind [] (take l.number l.self.pieces.now))
