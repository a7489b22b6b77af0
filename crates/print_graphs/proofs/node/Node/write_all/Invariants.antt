use Rattle.std.proofs.Common.{◌≡◌, take, []}
use Rattle.flow_graph.specs.Executed.{with_new}
use Rattle.flow_graph.specs.Found.{places_of}
use Rattle.print_graphs.specs.GraphOf.{node_of}
use Rattle.print_graphs.proofs.node.Node.write_all.Given as goal

-- the words so far are added, and nothing else is changed
abbrev pub invariant-loop-location : goal.invariant-loop-location
invariant-loop-location l = record {
  written : places_of l.self.written
      ≡ with_new (places_of l.fn.self.written) (take l.location-index (places_of l.other.written));
  same : record (node_of l.self) { written = [] } ≡ record (node_of l.fn.self) { written = [] };
}
