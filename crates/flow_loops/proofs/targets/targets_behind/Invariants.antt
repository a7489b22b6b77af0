use Rattle.base_graphs.specs.Graph.{row}
use Rattle.flow_graph.specs.Found.{places_of}
use Rattle.flow_loops.specs.Closing.{places_in, AreTargets}
use Rattle.flow_loops.proofs.targets.targets_behind.Given as goal

-- where the edges of the nodes so far lead back to
abbrev pub invariant-loop-node : goal.invariant-loop-node
invariant-loop-node l =
    AreTargets (row l.graph) l.ranks (places_in l.flow) l.node l.from.number (places_of l.targets)
