use Rattle.base_graphs.specs.Graph.{row}
use Rattle.flow_graph.specs.Found.{places_of}
use Rattle.flow_loops.specs.Closing.{places_in}
use Rattle.flow_loops.proofs.OneWays.{NoneOn}
use Rattle.flow_loops.proofs.one_way.some_leads_on.Given as goal

-- no edge of the nodes so far goes on to one of these locations
abbrev pub invariant-loop-node : goal.invariant-loop-node
invariant-loop-node l =
    NoneOn (row l.graph) l.ranks (places_in l.flow) l.node l.from.number (places_of l.targets)
