use Rattle.std.proofs.Common.{inl, inr}
use Rattle.ceiling_rows.proofs.sites.Sites.in_order.Goals as goal

pub loop-node-preserved : goal.loop-node-preserved
loop-node-preserved c number there = elim (c.in_ok-add_numbers.ensures number there) [
  | inl before ↦ c.loop-node.invariant number before
  | inr below ↦ below
]
