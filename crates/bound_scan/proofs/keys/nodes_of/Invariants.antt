use Rattle.std.proofs.Common.{◌≡◌, take}
use Rattle.bound_scan.specs.KeysOf.{HaveHops, numbers, nodes_in}
use Rattle.bound_scan.proofs.keys.nodes_of.Given as goal

-- the locations so far, each with its hops
abbrev pub invariant-loop-location : goal.invariant-loop-location
invariant-loop-location l = record {
  places : nodes_in l.nodes.items ≡ numbers (take l.location-index l.location-items);
  hops : HaveHops l.accepted l.nodes.items;
}
