use Rattle.std.proofs.Common.{take}
use Rattle.base_notes.specs.EdgeOf.{edge_of}
use Rattle.base_graphs.specs.Graph.{row}
use Rattle.flow_loops.specs.Closing.{places_in}
use Rattle.flow_loops.specs.Reached.{HasSuch, LeadsOut}
use Rattle.flow_loops.proofs.nesting.one_leads_out.Given as goal

-- none so far has
abbrev pub invariant-loop-node : goal.invariant-loop-node
invariant-loop-node l = ¬ HasSuch (LeadsOut (row l.graph) (places_in l.flow) (edge_of l.edge)) (take l.node-index l.nodes)
