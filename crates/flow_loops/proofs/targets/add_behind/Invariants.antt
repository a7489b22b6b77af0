use Rattle.std.proofs.Common.{take}
use Rattle.flow_graph.specs.Found.{places_of}
use Rattle.flow_loops.specs.Closing.{places_in, AreAdded}
use Rattle.flow_loops.proofs.targets.add_behind.Given as goal

-- those of the nodes so far are added
abbrev pub invariant-loop-next : goal.invariant-loop-next
invariant-loop-next l =
    AreAdded (take l.next-index l.next-items) l.ranks (places_in l.flow) l.node (places_of l.fn.targets)
    (places_of l.targets)
