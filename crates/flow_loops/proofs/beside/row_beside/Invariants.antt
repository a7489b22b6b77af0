use Rattle.std.proofs.Common.{map, take}
use Rattle.base_notes.specs.EdgeOf.{edge_of}
use Rattle.flow_loops.specs.Closing.{places_in}
use Rattle.flow_loops.specs.Spared.{IsRowBeside}
use Rattle.flow_loops.proofs.beside.row_beside.Given as goal

-- the nodes so far without those whose edge is one of these
abbrev pub invariant-loop-next : goal.invariant-loop-next
invariant-loop-next l =
    IsRowBeside (places_in l.flow) (map edge_of l.edges) l.node (take l.next-index l.next-items) l.rest.items
