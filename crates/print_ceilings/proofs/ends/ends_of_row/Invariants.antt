use Rattle.std.proofs.Common.{List, take}
use Rattle.std.specs.Prelude.{flat_map}
use Rattle.flow_walks.specs.Pieces.{spelled_at, PlacedHop}
use Rattle.print_ceilings.specs.EndsOf.{AreAllEnds, AreEnds}
use Rattle.print_ceilings.proofs.ends.ends_of_row.Given as goal

-- those of the pieces so far
abbrev pub invariant-loop-number : goal.invariant-loop-number
invariant-loop-number l =
    (spells : List (List PlacedHop)) → AreAllEnds l.ends spells
    → AreEnds l.all (flat_map (spelled_at spells) (take l.number-index l.names))
