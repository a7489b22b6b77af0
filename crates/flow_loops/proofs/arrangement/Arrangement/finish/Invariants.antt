use Rattle.base_graphs.specs.Graph.{row, size}
use Rattle.flow_loops.specs.Arranging.{Arranges, ForgetsNone, work_left}
use Rattle.flow_loops.proofs.arrangement.Arrangement.finish.Given as goal

abbrev pub invariant-loop-node : goal.invariant-loop-node
invariant-loop-node l = record {
  sound : Arranges (row l.graph) (size l.graph) l.self;
  kept : ForgetsNone l.fn.self.met.items l.self.met.items;
}

abbrev pub decreases-loop-node : goal.decreases-loop-node
decreases-loop-node l = work_left l.self
