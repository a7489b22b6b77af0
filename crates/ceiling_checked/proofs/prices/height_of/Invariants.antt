use Rattle.std.proofs.Common.{◌≡◌, drop}
use Rattle.base_graphs.specs.Graph.{height}
use Rattle.ceiling_checked.proofs.prices.height_of.Given as goal

-- none of those so far is the node
abbrev pub invariant-loop-index : goal.invariant-loop-index
invariant-loop-index l = height (drop l.index l.order) l.node ≡ height l.order l.node
