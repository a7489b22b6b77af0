use Rattle.std.proofs.Common.{◌≡◌, ◌%◌, ◌++◌, ◌≤◌, map, vec_len}
use Rattle.std.specs.Prelude.{Contains}
use Rattle.read_decks.specs.InDeck.{loads_in}
use Rattle.flow_graph.specs.Flow.{deck_of, notes_of}
use Rattle.flow_graph.specs.Hops.{hops}
use Rattle.flow_graph.specs.HopsLeft.{hops_left}
use Rattle.flow_acceptance.specs.OrderedFlow.{in_order}
use Rattle.bound_scan.specs.declared.leap.Leap.{Leap}
use Rattle.bound_scan.specs.KeysOf.{setting_of}
use Rattle.bound_scan.specs.LeapOf.{IsLeap, leap_hop}
use Rattle.bound_scan.proofs.keys.Keys.leaps_at.Given as goal

-- the leaps so far, of the hops so far
abbrev pub invariant-loop-hop : goal.invariant-loop-hop
invariant-loop-hop l = record {
  hops : map leap_hop l.leaps.items ++ hops_left l.hop-iterator
      ≡ hops (loads_in (deck_of l.self.accepted.now.flow)) (notes_of l.self.accepted.now.flow) l.node.location.number;
  each : (leap : Leap) → Contains l.leaps.items leap
      → IsLeap (setting_of l.self.accepted.now l.times) (in_order l.self.accepted.now) l.node.location.number
      (l.node.location.number % 50) leap;
  few : vec_len l.leaps ≤ l.room;
}
