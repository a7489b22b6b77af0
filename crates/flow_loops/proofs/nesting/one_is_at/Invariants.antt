use Rattle.std.proofs.Common.{take}
use Rattle.flow_loops.specs.Closing.{places_in}
use Rattle.flow_loops.specs.Reached.{HasSuch, IsAt}
use Rattle.flow_loops.proofs.nesting.one_is_at.Given as goal

-- none so far is there
abbrev pub invariant-loop-node : goal.invariant-loop-node
invariant-loop-node l = ¬ HasSuch (IsAt (places_in l.flow) l.location.number) (take l.node-index l.nodes)
