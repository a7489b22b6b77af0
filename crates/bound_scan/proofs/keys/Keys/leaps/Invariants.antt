use Rattle.std.proofs.Common.{◌≡◌, ◌≤◌, ℕ, Some, Vec, Global, vec_len}
use Rattle.std.specs.Prelude.{slice_get}
use Rattle.flow_acceptance.specs.OrderedFlow.{in_order}
use Rattle.bound_scan.specs.declared.leap.Leap.{Leap}
use Rattle.bound_scan.specs.KeysOf.{setting_of}
use Rattle.bound_scan.specs.LeapOf.{AreLeaps}
use Rattle.bound_scan.proofs.keys.Keys.leaps.Given as goal

-- the leaps of the locations so far
abbrev pub invariant-loop-node : goal.invariant-loop-node
invariant-loop-node l = record {
  long : vec_len l.all ≡ l.node-index;
  each : (k place : ℕ) (leaps : Vec Leap Global) → slice_get (in_order l.self.accepted.now) k ≡ Some place
      → slice_get l.all.items k ≡ Some (Some leaps)
      → AreLeaps (setting_of l.self.accepted.now l.times) (in_order l.self.accepted.now) place leaps.items;
  room : l.room ≤ 262144;
}
