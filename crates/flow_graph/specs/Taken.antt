-- Whether a location is one of some, and whether a step may go on from one location to another.
use Rattle.std.specs.Prelude.{ℕ, ◌==◌, ◌&&◌, Bool, List}
use Rattle.std.specs.List.{list_any}
use Rattle.base_notes.specs.Allowed.{Notes}
use Rattle.flow_graph.specs.Executed.{may_go}
use Rattle.flow_graph.specs.Hops.{edge_between, Node}

-- whether a location is one of these
abbrev pub is_among : List ℕ → ℕ → Bool
is_among places place = list_any (λ one. one == place) places

-- whether a node is at the one location, and a step may go from it to the other with what is open
-- there
abbrev pub may_go_on : Notes → ℕ → ℕ → Node → Bool
may_go_on notes from onto node =
    node.place == from && may_go notes.calls node.ways (edge_between node.place onto)

-- whether a step may go so from some node of these
abbrev pub is_taken : Notes → List Node → ℕ → ℕ → Bool
is_taken notes nodes from onto = list_any (may_go_on notes from onto) nodes
