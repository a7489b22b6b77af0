use Rattle.std.proofs.Common.{◌≡◌, vec_len}
use Rattle.bound_scan.proofs.Nodes.{HaveIndicesBelow}
use Rattle.bound_scan.proofs.keys.indices_of.Given as goal

-- the indices of the locations so far
abbrev pub invariant-loop-index : goal.invariant-loop-index
invariant-loop-index l = record {
  long : vec_len l.indices ≡ 8004;
  indices : HaveIndicesBelow l.index l.order l.indices.items;
}
