use Rattle.std.proofs.Common.{take}
use Rattle.base_graphs.specs.Graph.{row}
use Rattle.flow_loops.specs.Closing.{places_in}
use Rattle.flow_loops.specs.Reached.{HasSuch, LeadsBack}
use Rattle.flow_loops.proofs.nesting.one_leads_back.Given as goal

-- none so far does
abbrev pub invariant-loop-node : goal.invariant-loop-node
invariant-loop-node l = ¬ HasSuch (LeadsBack (row l.graph) (places_in l.flow) l.from.number l.back) (take l.node-index l.nodes)
