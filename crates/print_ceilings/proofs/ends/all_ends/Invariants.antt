use Rattle.std.proofs.Common.{[], take}
use Rattle.flow_walks.specs.Pieces.{spelled_behind}
use Rattle.print_ceilings.specs.EndsOf.{AreAllEnds}
use Rattle.print_ceilings.proofs.ends.all_ends.Given as goal

-- those of the pieces so far
abbrev pub invariant-loop-piece : goal.invariant-loop-piece
invariant-loop-piece l = AreAllEnds l.ends.items (spelled_behind [] (take l.piece-index l.pieces))
