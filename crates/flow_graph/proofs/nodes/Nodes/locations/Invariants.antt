use Rattle.std.proofs.Common.{◌≡◌, map, take}
use Rattle.flow_graph.specs.Executed.{each_place}
use Rattle.flow_graph.specs.Found.{places_of}
use Rattle.flow_graph.specs.InNodes.{node_of}
use Rattle.flow_graph.proofs.nodes.Nodes.locations.Given as goal

-- the locations of the nodes so far, each once
abbrev pub invariant-loop-node : goal.invariant-loop-node
invariant-loop-node l =
    places_of l.executed
    ≡ each_place (map (node_of l.fn.calls l.self.openings.items) (take l.node-index (take 65536 l.self.nodes.keys.items)))
