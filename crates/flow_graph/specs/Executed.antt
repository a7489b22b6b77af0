-- The order of discovery: a list of nodes begins with that of the start, and each of its members in
-- turn adds the nodes that edges lead to from it and that are not in it yet, in the order of its
-- hops.
use Rattle.std.specs.Prelude.{◌≡◌, ℕ, zero, suc, ◌≤◌, ◌==◌, ◌&&◌, if◌then◌else◌, Bool, true}
use Rattle.std.specs.Prelude.{nat_eq, List, [], ◌∷◌, ◌++◌, length, slice_get, Option, Some, None}
use Rattle.std.specs.Prelude.{filter_map, flat_map, map}
use Rattle.std.specs.Cmp.Lexicographic.{pointwise}
use Rattle.std.specs.List.{list_any}
use Rattle.std.specs.Option.{option_eq}
use Rattle.base_words.specs.declared.word.Word.{Word}
use Rattle.base_notes.specs.declared.notes.call.Call.{Call}
use Rattle.base_notes.specs.Allowed.{Notes}
use Rattle.machine_steps.specs.Calls.{open_after}
use Rattle.machine_steps.specs.Since.{Edge}
use Rattle.machine_steps.specs.Ways.{Way, early, to, late}
use Rattle.flow_graph.specs.Hops.{hops, edge_between, first_node, Node}

-- where a way goes on
abbrev pub target_of : Way → Option ℕ
target_of early = None
target_of (to next) = Some next
target_of late = None

abbrev pub successors : (ℕ → Option Word) → Notes → ℕ → List ℕ
successors loads notes place = filter_map (λ hop. target_of hop.way) (hops loads notes place)

-- a list with those of others at its end that aren't in it yet, as a test says
abbrev pub with_new_by : {X : Type 0} → (X → X → Bool) → List X → List X → List X
with_new_by same all [] = all
with_new_by same all (next ∷ nexts) =
    if list_any (λ one. same one next) all then with_new_by same all nexts
    else with_new_by same (all ++ next ∷ []) nexts

-- the same of locations
abbrev pub with_new : List ℕ → List ℕ → List ℕ
with_new places nexts = with_new_by (λ place next. place == next) places nexts

-- whether a step may go along an edge: from the exit of a call it goes to the way back that is open
abbrev pub may_go : List Call → List (Option ℕ) → Edge → Bool
may_go [] ways edge = true
may_go (call ∷ calls) [] edge = true
may_go (call ∷ calls) (way ∷ ways) edge =
    (if call.exit.number == edge.from then option_eq nat_eq way (Some edge.onto) else true)
    && may_go calls ways edge

-- the node that an edge to a location leads to from a node, if a step may go along it
abbrev pub onward : Notes → Node → ℕ → List Node
onward notes node next =
    let edge = edge_between node.place next in
    if may_go notes.calls node.ways edge
    then record { place = next; ways = open_after notes.calls edge node.ways } ∷ [] else []

-- the nodes that edges lead to from a node, in the order of its hops
abbrev pub next_nodes : (ℕ → Option Word) → Notes → Node → List Node
next_nodes loads notes node =
    flat_map (onward notes node) (with_new [] (successors loads notes node.place))

-- whether two nodes are the same
abbrev pub same_node : Node → Node → Bool
same_node one other =
    one.place == other.place && pointwise (option_eq nat_eq) one.ways other.ways

-- the nodes that edges lead to from a member of the list, if there is one
abbrev pub added_by : (ℕ → Option Word) → Notes → Option Node → List Node
added_by loads notes None = []
added_by loads notes (Some node) = next_nodes loads notes node

-- the list, once its first members, as many as the number says, have added theirs
abbrev pub found_after : (ℕ → Option Word) → Notes → ℕ → ℕ → List Node
found_after loads notes start zero = first_node notes start ∷ []
found_after loads notes start (suc count) =
    let found = found_after loads notes start count in
    with_new_by same_node found (added_by loads notes (slice_get found count))

-- the locations of nodes, each once
abbrev pub each_place : List Node → List ℕ
each_place nodes = with_new [] (map (λ node. node.place) nodes)

-- These are the nodes of the flow graph, in the order of discovery: each has added those that edges
-- lead to from it.
pub record AreAllNodes (loads : ℕ → Option Word) (notes : Notes) (start : ℕ)
    (nodes : List Node) : Type 0 where
  pub count : ℕ
  pub after : found_after loads notes start count ≡ nodes
  pub all : length nodes ≤ count

-- The order of discovery of the executed locations: that of the nodes, each location once.
pub record IsOrder (loads : ℕ → Option Word) (notes : Notes) (start : ℕ)
    (order : List ℕ) : Type 0 where
  pub nodes : List Node
  pub reached : AreAllNodes loads notes start nodes
  pub places : each_place nodes ≡ order
