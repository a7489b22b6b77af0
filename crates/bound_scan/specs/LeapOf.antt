-- What is known of a hop before the scan: how long it takes from the angle at which its instruction
-- is found, and where it goes on.
use Rattle.std.specs.Prelude.{◌≡◌, ℕ, ◌+◌, ◌%◌, ◌<◌, List, length, map, slice_get, Option, Some}
use Rattle.std.specs.Prelude.{Contains}
use Rattle.std.proofs.Common.{Vec, Global}
use Rattle.base_notes.specs.Marks.{mark_on}
use Rattle.machine_steps.specs.Ways.{to}
use Rattle.flow_graph.specs.Hops.{Hop, hops}
use Rattle.machine_steps.specs.WaysLeft.{seen_way}
use Rattle.flow_graph.specs.Seen.{seen_hop}
use Rattle.flow_graph.specs.Walk.{Setting}
use Rattle.bound_scan.specs.declared.leap.Leap.{Leap}
use Rattle.flow_graph.specs.Longest.{longest}

-- From a clock at this angle on, the hop of this place ends at the latest as many word times later
-- as the leap has.
abbrev pub TakesLongest : Setting → ℕ → ℕ → Leap → Type 0
TakesLongest g place angle leap = (clock : ℕ) → clock % 50 ≡ angle
    → longest g.times place leap.hop.instruction (seen_way leap.hop.way) clock ≡ clock + leap.time

-- The leap is that of a hop: it takes as long as that can. Where the hop goes on, this is the place
-- that it goes on at, by its index in the order, and the mark on its edge.
pub record IsLeap (g : Setting) (order : List ℕ) (place angle : ℕ) (leap : Leap) : Type 0 where
  pub time : TakesLongest g place angle leap
  pub onto : (next : ℕ) → seen_way leap.hop.way ≡ to next → (slice_get order leap.index ≡ Some next)
      × (mark_on g.notes.marks place next ≡ leap.mark)

-- the hop that a leap is of
abbrev pub leap_hop : Leap → Hop
leap_hop leap = seen_hop leap.hop

-- These are the hops of a drum place, from when its instruction is found: at the place's angle.
pub record AreLeaps (g : Setting) (order : List ℕ) (place : ℕ) (leaps : List Leap) : Type 0 where
  pub hops : map leap_hop leaps ≡ hops g.loads g.notes place
  pub each : (leap : Leap) → Contains leaps leap → IsLeap g order place (place % 50) leap
  pub drum : place < 2000

-- Each location of the order that has leaps has its own.
pub record HaveLeaps (g : Setting) (order : List ℕ) (all : List (Option (Vec Leap Global))) : Type
    0 where
  pub long : length all ≡ length order
  pub each : (k place : ℕ) (leaps : Vec Leap Global) → slice_get order k ≡ Some place
      → slice_get all k ≡ Some (Some leaps) → AreLeaps g order place leaps.items
