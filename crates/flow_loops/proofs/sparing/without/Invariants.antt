use Rattle.std.proofs.Common.{map, take}
use Rattle.base_notes.specs.EdgeOf.{edge_of}
use Rattle.flow_loops.specs.Spared.{AreWithout}
use Rattle.flow_loops.proofs.sparing.without.Given as goal

-- the edges so far without the one
abbrev pub invariant-loop-one : goal.invariant-loop-one
invariant-loop-one l =
    AreWithout (map edge_of (take l.one-index l.edges)) (edge_of l.edge) (map edge_of l.others.items)
