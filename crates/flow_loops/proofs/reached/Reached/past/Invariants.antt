use Rattle.std.proofs.Common.{length}
use Rattle.base_graphs.specs.Graph.{row}
use Rattle.flow_graph.specs.Flow.{nodes_of}
use Rattle.flow_loops.specs.Closing.{places_in}
use Rattle.flow_loops.specs.Reached.{nodes_in, AreMet}
use Rattle.flow_loops.proofs.Reachings.{IsReaching}
use Rattle.flow_loops.proofs.reached.Reached.past.Given as goal

-- the nodes before this turn have added what edges lead to from them
abbrev pub invariant-loop-turn : goal.invariant-loop-turn
invariant-loop-turn l = record {
  met : AreMet (length (nodes_of l.flow)) l.reached;
  reaching : IsReaching (row l.graph) (places_in l.flow) l.avoided.number l.fn.from l.turn (nodes_in l.reached);
}
