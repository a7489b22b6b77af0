use Rattle.std.proofs.Common.{◌≡◌, length}
use Rattle.flow_graph.specs.HopsLeft.{hops_left}
use Rattle.flow_graph.specs.Instructions.{instructions_left}
use Rattle.flow_graph.proofs.hops.HopsIterator.next.Given as goal

-- the same hops are left as at the beginning
abbrev pub invariant-loop-hop : goal.invariant-loop-hop
invariant-loop-hop l = hops_left l.fn.self ≡ hops_left l.self

abbrev pub decreases-loop-hop : goal.decreases-loop-hop
decreases-loop-hop l = length (instructions_left l.self.instructions)
