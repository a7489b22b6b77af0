-- Where instructions are found in nodes of the flow graph, by numbers.
use Rattle.std.specs.Prelude.{◌≡◌, ℕ, ◌<◌, List, slice_get, Some, Contains}
use Rattle.machine_steps.specs.Timing.{found}
use Rattle.base_graphs.specs.Graph.{AreDifferent}
use Rattle.flow_graph.specs.Hops.{Node}
use Rattle.ceiling_rows.specs.declared.sites.Site.{Site}
use Rattle.ceiling_rows.specs.declared.sites.Sites.{Sites}

-- the sites, in the order of their numbers
abbrev pub sites_in : Sites → List Site
sites_in sites = sites.sites.keys.items

-- The site is that of a node at an angle at which its location is found.
abbrev pub IsSiteOf : List Node → Site → Node → Type 0
IsSiteOf nodes site node =
    (slice_get nodes site.node ≡ Some node) × (site.angle < 50)
    × (found node.place site.angle ≡ site.angle)

-- the site with this number is that of this node at this angle
abbrev pub IsSite : List Node → List Site → ℕ → Node → ℕ → Type 0
IsSite nodes sites number node angle =
    (site : Site) × (slice_get sites number ≡ Some site) × (slice_get nodes site.node ≡ Some node)
    × (site.angle ≡ angle)

-- These are all sites of the nodes, none of them twice.
pub record AreSites (nodes : List Node) (sites : List Site) : Type 0 where
  pub only : (site : Site) → Contains sites site → (node : Node) × IsSiteOf nodes site node
  pub all : (site : Site) (node : Node) → IsSiteOf nodes site node → Contains sites site
  pub different : AreDifferent sites
