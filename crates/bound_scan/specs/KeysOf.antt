-- What the keys of an accepted flow are, as they are held.
use Rattle.std.specs.Prelude.{◌≡◌, ℕ, List, map, slice_get, Some, Contains}
use Rattle.base_words.specs.declared.location.Location.{Location}
use Rattle.read_decks.specs.InDeck.{loads_in, start_in}
use Rattle.base_notes.specs.declared.notes.mark.Mark.{Mark}
use Rattle.base_notes.specs.declared.times.Times.{Times}
use Rattle.base_notes.specs.Allowed.{Notes}
use Rattle.flow_graph.specs.Accepted.{counts_of}
use Rattle.flow_graph.specs.Flow.{deck_of, notes_of, executed_in}
use Rattle.flow_graph.specs.Hops.{Hop, hops}
use Rattle.flow_graph.specs.HopsLeft.{hops_left}
use Rattle.flow_graph.specs.Walk.{Setting}
use Rattle.flow_graph.specs.SettingOf.{setting}
use Rattle.flow_acceptance.specs.declared.ordered_flow.OrderedFlow.{OrderedFlow}
use Rattle.flow_acceptance.specs.OrderedFlow.{in_order}
use Rattle.bound_scan.specs.declared.keys.Keys.{Keys}
use Rattle.bound_scan.specs.declared.keys.Node.{Node}
use Rattle.bound_scan.specs.Keys.{keys_of, IsOrdered}

-- what the walks of an accepted flow are in, with a timing table
abbrev pub setting_of : OrderedFlow → Times → Setting
setting_of accepted times = setting (deck_of accepted.flow) times (notes_of accepted.flow)

-- the notes of keys, their marks, and where the program starts
abbrev pub notes_in : Keys → Notes
notes_in keys = notes_of keys.accepted.now.flow

abbrev pub marks_in : Keys → List Mark
marks_in keys = (notes_in keys).marks

abbrev pub start_of : Keys → ℕ
start_of keys = start_in (deck_of keys.accepted.now.flow)

-- their locations, in their order, and the hops of each
abbrev pub order_in : Keys → List ℕ
order_in keys = in_order keys.accepted.now

abbrev pub hops_in : Keys → ℕ → List Hop
hops_in keys place = hops (loads_in (deck_of keys.accepted.now.flow)) (notes_in keys) place

-- what their walks are in, with a timing table
abbrev pub setting_with : Keys → Times → Setting
setting_with keys times = setting_of keys.accepted.now times

-- the order of the executed locations is one that keys can be made of
abbrev pub CanHaveKeys : OrderedFlow → Type 0
CanHaveKeys accepted = IsOrdered (loads_in (deck_of accepted.flow)) (notes_of accepted.flow)
    (start_in (deck_of accepted.flow)) (in_order accepted)
    × ((place : ℕ) → Contains (in_order accepted) place → Contains (executed_in accepted.flow)
    place)

-- the numbers of locations
abbrev pub numbers : List Location → List ℕ
numbers locations = map (λ location. location.number) locations

-- the numbers of the locations of nodes
abbrev pub nodes_in : List Node → List ℕ
nodes_in nodes = map (λ node. node.location.number) nodes

-- each has the hops of its location
abbrev pub HaveHops : OrderedFlow → List Node → Type 0
HaveHops accepted nodes = (node : Node) → Contains nodes node
    → hops_left node.hops
    ≡ hops (loads_in (deck_of accepted.flow)) (notes_of accepted.flow) node.location.number

-- each location's index stands at its number
abbrev pub HaveIndices : List ℕ → List ℕ → Type 0
HaveIndices order indices =
    (k place : ℕ) → slice_get order k ≡ Some place → slice_get indices place ≡ Some k

-- The keys of an accepted flow.
pub record AreKeys (keys : Keys) : Type 0 where
  pub ordered : CanHaveKeys keys.accepted.now
  pub nodes : nodes_in keys.nodes.items ≡ order_in keys
  pub hops : HaveHops keys.accepted.now keys.nodes.items
  pub indices : HaveIndices (order_in keys) keys.indices.items
  pub counts : keys.counts ≡ counts_of (marks_in keys)
  pub size : keys.size ≡ keys_of (marks_in keys) (order_in keys)
