use Rattle.std.proofs.Common.{take}
use Rattle.flow_graph.specs.Found.{places_of}
use Rattle.flow_loops.specs.Closing.{places_in}
use Rattle.flow_loops.proofs.OneWays.{NoneAhead}
use Rattle.flow_loops.proofs.one_way.leads_on.Given as goal

-- none of the nodes so far is ahead at one of these locations
abbrev pub invariant-loop-next : goal.invariant-loop-next
invariant-loop-next l =
    NoneAhead (take l.next-index l.next-items) l.ranks (places_in l.flow) l.node (places_of l.targets)
