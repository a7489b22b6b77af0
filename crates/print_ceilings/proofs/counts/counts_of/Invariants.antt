use Rattle.std.proofs.Common.{take, replicate, length}
use Rattle.std.specs.Prelude.{flat_map}
use Rattle.flow_walks.specs.Pieces.{named}
use Rattle.print_ceilings.specs.CountsOf.{HasCounted}
use Rattle.print_ceilings.proofs.counts.counts_of.Given as goal

-- the names of the pieces so far were counted
abbrev pub invariant-loop-piece : goal.invariant-loop-piece
invariant-loop-piece l =
    HasCounted (replicate (length l.pieces) 0) l.counts.items (flat_map named (take l.piece-index l.pieces))
