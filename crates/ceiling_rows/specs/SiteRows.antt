-- What the hops from a node take at most, from when its instruction is found at an angle, by where
-- they lead: along the edges alone that a step may take with what is open there.
use Rattle.std.specs.Prelude.{◌≡◌, ℕ, ◌+◌, ◌%◌, ◌≤◌, List, length, slice_get, Option, Some, None}
use Rattle.std.specs.Prelude.{Contains}
use Rattle.base_notes.specs.Allowed.{Notes}
use Rattle.base_notes.specs.Marks.{mark_on}
use Rattle.machine_steps.specs.Calls.{open_after, MayGo}
use Rattle.machine_steps.specs.Ways.{Way, to}
use Rattle.flow_graph.specs.Executed.{onward}
use Rattle.flow_graph.specs.Hops.{edge_between, hops, Hop, Node}
use Rattle.flow_graph.specs.Longest.{longest}
use Rattle.flow_graph.specs.Walk.{Setting}
use Rattle.ceiling_rows.specs.declared.row.Edge.{Edge}
use Rattle.ceiling_rows.specs.declared.row.Row.{Row}
use Rattle.ceiling_rows.specs.declared.site_row.SiteEdge.{SiteEdge}
use Rattle.ceiling_rows.specs.declared.site_row.SiteRow.{SiteRow}
use Rattle.ceiling_rows.specs.declared.sites.Site.{Site}
use Rattle.ceiling_rows.specs.Marked.{mark_by}
use Rattle.ceiling_rows.specs.Sites.{IsSite}
use Rattle.ceiling_rows.specs.Slot.{place_of, slot_of}
use Rattle.ceiling_rows.specs.Steps.{arrival}

-- the node that a step to a location leads to
abbrev pub node_behind : Notes → Node → ℕ → Node
node_behind notes node next = record {
  place = next;
  ways = open_after notes.calls (edge_between node.place next) node.ways;
}

-- The edge is that of a hop from the node to this location, and takes as long as that can.
pub record IsSiteEdge (g : Setting) (nodes : List Node) (sites : List Site) (node : Node)
    (angle : ℕ) (hop : Hop) (next : ℕ) (edge : SiteEdge) : Type 0 where
  pub onto : IsSite nodes sites edge.onto (node_behind g.notes node next)
      (arrival g node.place angle hop next % 50)
  pub mark : edge.mark ≡ mark_on g.notes.marks node.place next
  pub time : arrival g node.place angle hop next ≤ angle + edge.time
  pub stop : longest g.times node.place hop.ins hop.way angle + 49 ≤ angle + edge.stop

-- A step may go by this way from a node: where it goes on, along an edge that it may take with what
-- is open there.
abbrev pub MayLeave : Notes → Node → Way → Type 0
MayLeave notes node way =
    (next : ℕ) → way ≡ to next → MayGo notes.calls node.ways (edge_between node.place next)

-- The row has the hop, if a step may go by its way: where it passes no mark, it ends no later than
-- the row says, less 49 word times; and where it goes on, the row has its edge.
pub record Leaves (g : Setting) (nodes : List Node) (sites : List Site) (node : Node) (angle : ℕ)
    (row : SiteRow) (hop : Hop) : Type 0 where
  pub ends : MayLeave g.notes node hop.way → mark_by g.notes.marks node.place hop.way ≡ None
      → longest g.times node.place hop.ins hop.way angle + 49 ≤ angle + row.stop
  pub goes_on : (next : ℕ) → hop.way ≡ to next
      → MayGo g.notes.calls node.ways (edge_between node.place next)
      → (edge : SiteEdge) × Contains row.edges.items edge
      × IsSiteEdge g nodes sites node angle hop next edge

-- The row has all hops of the node.
abbrev pub IsSiteRow : Setting → List Node → List Site → Node → ℕ → SiteRow → Type 0
IsSiteRow g nodes sites node angle row =
    (hop : Hop) → Contains (hops g.loads g.notes node.place) hop
    → Leaves g nodes sites node angle row hop

-- Each site has its row.
pub record AreSiteRows (g : Setting) (nodes : List Node) (sites : List Site)
    (rows : List SiteRow) : Type 0 where
  pub long : length rows ≡ length sites
  pub each : (number : ℕ) (row : SiteRow) (node : Node) (angle : ℕ)
      → slice_get rows number ≡ Some row → IsSite nodes sites number node angle
      → IsSiteRow g nodes sites node angle row

-- Where a step along an edge of the row of a location leads to a node, and that has its site, one
-- of these edges leads there, and takes as long.
abbrev pub HasOnward : Notes → List Node → List Site → Node → Edge → List SiteEdge → Type 0
HasOnward notes nodes sites from edge edges =
    (next : Node) (index : ℕ) → Contains (onward notes from (place_of edge.onto.number)) next
    → slice_get nodes index ≡ Some next
    → Contains sites (record { node = index; angle = edge.onto.number % 50 })
    → (made : SiteEdge) × Contains edges made
    × IsSite nodes sites made.onto next (edge.onto.number % 50)
    × (made.mark ≡ edge.mark) × (made.time ≡ edge.time) × (made.stop ≡ edge.stop)

-- So it is of all edges of a row.
abbrev pub HasAllOnward : Notes → List Node → List Site → Node → List Edge → List SiteEdge → Type 0
HasAllOnward notes nodes sites from edges made =
    (edge : Edge) → Contains edges edge → HasOnward notes nodes sites from edge made

-- No edge without a mark has a later end.
abbrev pub EndWithin : ℕ → List SiteEdge → Type 0
EndWithin stop edges =
    (edge : SiteEdge) → Contains edges edge → edge.mark ≡ None → edge.stop ≤ stop

-- The row of a site is made of that of its location at its angle, where there is one.
abbrev pub IsMadeOf : Notes → List Node → List Site → List (Option Row) → Site → SiteRow → Type 0
IsMadeOf notes nodes sites rows site made =
    (from : Node) (row : Row) → slice_get nodes site.node ≡ Some from
    → slice_get rows (slot_of from.place (site.angle % 50)) ≡ Some (Some row)
    → (row.stop ≤ made.stop) × EndWithin made.stop made.edges.items
    × HasAllOnward notes nodes sites from row.edges.items made.edges.items
