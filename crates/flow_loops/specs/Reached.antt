-- What edges of rows lead to without coming to a location. `row` says which nodes the edges of a
-- node lead to, and `places` has the nodes' locations.
use Rattle.std.specs.Prelude.{◌≡◌, ◌≢◌, ℕ, ◌<◌, ◌==◌, not, Bool, List, length, slice_index}
use Rattle.std.specs.Prelude.{Contains}
use Rattle.flow_loops.specs.declared.reached.Reached.{Reached}
use Rattle.flow_loops.specs.Flags.{AreFlags}
use Rattle.flow_loops.specs.Loops.{LeadsTo}

-- the nodes that were reached, in order
abbrev pub nodes_in : Reached → List ℕ
nodes_in reached = reached.nodes.items

-- The flags are those of the nodes, of which there are so many.
pub record AreMet (size : ℕ) (reached : Reached) : Type 0 where
  pub long : length reached.flags.items ≡ size
  pub flags : AreFlags reached.flags.items reached.nodes.items

-- whether a node stands elsewhere than at a location
abbrev pub is_elsewhere : List ℕ → ℕ → ℕ → Bool
is_elsewhere places avoided node = not (slice_index places node == avoided)

-- an edge that doesn't lead onto a node at the location to be avoided
abbrev pub GoesPast : (ℕ → List ℕ) → List ℕ → ℕ → ℕ → ℕ → Type 0
GoesPast row places avoided node next =
    Contains (row node) next × (slice_index places next ≢ avoided)

-- such edges, perhaps none, lead from the one node to the other
abbrev pub LeadsPast : (ℕ → List ℕ) → List ℕ → ℕ → ℕ → ℕ → Type 0
LeadsPast row places avoided node next = LeadsTo (GoesPast row places avoided) node next

-- one of some nodes has a property
abbrev pub HasSuch : (ℕ → Type 0) → List ℕ → Type 0
HasSuch IsSuch nodes = (node : ℕ) × Contains nodes node × IsSuch node

-- a node is at a location
abbrev pub IsAt : List ℕ → ℕ → ℕ → Type 0
IsAt places place node = slice_index places node ≡ place

-- it is, and has an edge to this node
abbrev pub LeadsBack : (ℕ → List ℕ) → List ℕ → ℕ → ℕ → ℕ → Type 0
LeadsBack row places from back node = IsAt places from node × Contains (row node) back

-- it is at the location that an edge of locations leads from, and has an edge to where that leads
abbrev pub LeadsOut : (ℕ → List ℕ) → List ℕ → ℕ × ℕ → ℕ → Type 0
LeadsOut row places edge node = IsAt places edge.0 node × HasSuch (IsAt places edge.1) (row node)

-- edges lead so from a node to one with a property
abbrev pub LeadsToSuch : (ℕ → List ℕ) → List ℕ → ℕ → ℕ → (ℕ → Type 0) → Type 0
LeadsToSuch row places avoided node IsSuch =
    (last : ℕ) × LeadsPast row places avoided node last × IsSuch last

-- Without coming to the outer head, edges lead from a node to one that the inner edge leads back
-- from, and to one that the outer edge leads out from.
pub record LeadsAbout (row : ℕ → List ℕ) (places : List ℕ) (outer inner : ℕ × ℕ)
    (node : ℕ) : Type 0 where
  pub back : LeadsToSuch row places outer.1 node (LeadsBack row places inner.0 node)
  pub out : LeadsToSuch row places outer.1 node (LeadsOut row places outer)

-- they do from one of so many nodes, at the inner head
abbrev pub OneLeadsAbout : (ℕ → List ℕ) → List ℕ → ℕ × ℕ → ℕ × ℕ → ℕ → Type 0
OneLeadsAbout row places outer inner count =
    (node : ℕ) × (node < count) × IsAt places inner.1 node × LeadsAbout row places outer inner node
