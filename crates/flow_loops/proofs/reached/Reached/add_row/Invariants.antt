use Rattle.std.proofs.Common.{◌≡◌, length, take}
use Rattle.std.specs.Prelude.{filter}
use Rattle.flow_graph.specs.Executed.{with_new}
use Rattle.flow_graph.specs.Flow.{nodes_of}
use Rattle.flow_loops.specs.Closing.{places_in}
use Rattle.flow_loops.specs.Reached.{is_elsewhere, nodes_in, AreMet}
use Rattle.flow_loops.proofs.reached.Reached.add_row.Given as goal

-- those of the nodes so far were added
abbrev pub invariant-loop-node : goal.invariant-loop-node
invariant-loop-node l = record {
  met : AreMet (length (nodes_of l.flow)) l.self;
  added : nodes_in l.self ≡ with_new (nodes_in l.fn.self)
      (filter (is_elsewhere (places_in l.flow) l.avoided.number) (take l.node-index l.row));
}
