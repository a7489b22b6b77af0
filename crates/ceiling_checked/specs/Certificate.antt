-- Certificates: what is owed for each node, angle and counts, so that it pays for each hop that
-- these counts and what is open there allow. One bounds every walk.
use Rattle.std.specs.Prelude.{◌≡◌, ℕ, ◌+◌, ◌%◌, ◌<◌, ◌≤◌, List, Option, Some, Contains}
use Rattle.base_notes.specs.Allowed.{Notes}
use Rattle.machine_steps.specs.Calls.{MayGo}
use Rattle.machine_steps.specs.Counts.{after_pass, no_counts, AreWithin}
use Rattle.machine_steps.specs.Ways.{Way, early, to, late}
use Rattle.flow_graph.specs.Hops.{edge_between, first_node, hops, Hop, Node}
use Rattle.flow_graph.specs.Longest.{longest}
use Rattle.flow_graph.specs.Walk.{Setting}
use Rattle.ceiling_rows.specs.SiteRows.{node_behind}
use Rattle.ceiling_rows.specs.Steps.{arrival}

-- where these counts, and what is open at the node, allow a hop by this way: it stops, or goes
-- along an edge that a step may take, and passes no mark more often than it may be passed
abbrev pub IsAllowed : Notes → Node → List ℕ → Way → Type 0
IsAllowed notes node counts early = Unit {0}
IsAllowed notes node counts (to next) =
    MayGo notes.calls node.ways (edge_between node.place next)
    × AreWithin notes.marks (after_pass notes.marks node.place next counts)
IsAllowed notes node counts late = Unit {0}

-- From the clock at which the node's instruction is found, what is due pays for the hop: until it
-- ends, with 49 word times left over; and where it goes on, until the next instruction is found,
-- with what is owed there left over. (The 49 are for the first search of the walk, which is over
-- before its first clock.)
pub record Pays (g : Setting) (owed : Node → ℕ → List ℕ → Option ℕ) (node : Node) (clock : ℕ)
    (counts : List ℕ) (due : ℕ) (hop : Hop) : Type 0 where
  pub ends : longest g.times node.place hop.ins hop.way clock + 49 ≤ clock + due
  pub goes_on : (next : ℕ) → hop.way ≡ to next → (later : ℕ)
      × (owed (node_behind g.notes node next) (arrival g node.place clock hop next % 50)
      (after_pass g.notes.marks node.place next counts) ≡ Some later)
      × (arrival g node.place clock hop next + later ≤ clock + due)

-- What is owed for a node, the angle at which its instruction is found, and the counts of the marks
-- is a certificate of a total: it owes the total at the start, and pays everywhere for each hop
-- that is allowed there.
pub record IsCertificate (g : Setting) (owed : Node → ℕ → List ℕ → Option ℕ)
    (total : ℕ) : Type 0 where
  pub starts : owed (first_node g.notes g.start) (g.start % 50) (no_counts g.notes.marks)
      ≡ Some total
  pub pays : (node : Node) (angle due : ℕ) (counts : List ℕ) → angle < 50
      → AreWithin g.notes.marks counts → owed node angle counts ≡ Some due → (hop : Hop)
      → Contains (hops g.loads g.notes node.place) hop → IsAllowed g.notes node counts hop.way
      → Pays g owed node angle counts due hop
