use Rattle.std.proofs.Common.{◌≡◌, List, Some, take}
use Rattle.ceiling_rounds.specs.Order.{through_row, Through}
use Rattle.ceiling_rounds.specs.OrderOf.{AreThrough}
use Rattle.ceiling_rounds.proofs.order.Order.row.Given as goal

-- behind how many a walk is that has gone through the pieces so far
abbrev pub invariant-loop-number : goal.invariant-loop-number
invariant-loop-number l =
    (before : List Through) → AreThrough l.self.firsts.items l.limit before
    → through_row before (take l.number-index l.names) l.fn.ended ≡ Some l.ended
