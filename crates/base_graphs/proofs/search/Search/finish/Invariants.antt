use Rattle.base_graphs.specs.Graph.{row, size}
use Rattle.base_graphs.specs.Search.{Searches, ForgetsNone, work_left}
use Rattle.base_graphs.proofs.search.Search.finish.Given as goal

abbrev pub invariant-loop-node : goal.invariant-loop-node
invariant-loop-node l = record {
  sound : Searches (row l.graph) (size l.graph) l.self;
  kept : ForgetsNone l.fn.self.states.items l.self.states.items;
}

abbrev pub decreases-loop-node : goal.decreases-loop-node
decreases-loop-node l = work_left l.self
