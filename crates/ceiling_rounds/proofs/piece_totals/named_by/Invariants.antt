use Rattle.std.proofs.Common.{◌≡◌, length, take}
use Rattle.std.specs.Prelude.{sum_by}
use Rattle.flow_walks.specs.Pieces.{named}
use Rattle.ceiling_rounds.proofs.piece_totals.named_by.Given as goal

-- the sum so far
abbrev pub invariant-loop-piece : goal.invariant-loop-piece
invariant-loop-piece l = l.all ≡ sum_by (λ one. length (named one)) (take l.piece-index l.pieces)
