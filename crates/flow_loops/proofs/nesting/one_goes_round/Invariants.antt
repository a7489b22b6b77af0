use Rattle.base_notes.specs.EdgeOf.{edge_of}
use Rattle.base_graphs.specs.Graph.{row}
use Rattle.flow_loops.specs.Closing.{places_in}
use Rattle.flow_loops.specs.Reached.{OneLeadsAbout}
use Rattle.flow_loops.proofs.nesting.one_goes_round.Given as goal

-- they do from none so far
abbrev pub invariant-loop-node : goal.invariant-loop-node
invariant-loop-node l = ¬ OneLeadsAbout (row l.graph) (places_in l.flow) (edge_of l.outer) (edge_of l.inner) l.node
