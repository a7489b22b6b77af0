use Rattle.std.proofs.Common.{◌≡◌, take, Some}
use Rattle.std.specs.Prelude.{slice_get}
use Rattle.flow_graph.specs.Flow.{nodes_of, notes_of}
use Rattle.flow_graph.specs.Hops.{Node}
use Rattle.ceiling_rows.specs.SiteRows.{HasAllOnward}
use Rattle.ceiling_rows.specs.Sites.{sites_in}
use Rattle.ceiling_rows.proofs.site_row.site_edges.Given as goal

-- the edges so far
abbrev pub invariant-loop-edge : goal.invariant-loop-edge
invariant-loop-edge l = (from : Node) → slice_get (nodes_of l.flow) l.node ≡ Some from
    → HasAllOnward (notes_of l.flow) (nodes_of l.flow) (sites_in l.sites) from (take l.edge-index l.edges) l.made.items
