use Rattle.std.proofs.Common.{◌<◌}
use Rattle.std.specs.Prelude.{Contains}
use Rattle.flow_graph.specs.Flow.{nodes_of}
use Rattle.flow_graph.specs.Hops.{Node}
use Rattle.ceiling_rows.specs.declared.sites.Site.{Site}
use Rattle.ceiling_rows.specs.Sites.{sites_in, IsSiteOf}
use Rattle.ceiling_rows.proofs.sites.Sites.of.Given as goal

-- the sites of the nodes so far
abbrev pub invariant-loop-node : goal.invariant-loop-node
invariant-loop-node l = record {
  only : (site : Site) → Contains (sites_in l.sites) site → (node : Node) × IsSiteOf (nodes_of l.flow) site node;
  all : (site : Site) (node : Node) → site.node < l.node → IsSiteOf (nodes_of l.flow) site node
      → Contains (sites_in l.sites) site;
}
