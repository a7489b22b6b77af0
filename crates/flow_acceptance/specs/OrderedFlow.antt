-- What an accepted flow has beside the flow: an order of its own.
use Rattle.std.specs.Prelude.{ℕ, List, map}
use Rattle.flow_graph.specs.Flow.{nodes_of}
use Rattle.flow_graph.specs.Hops.{Node}
use Rattle.flow_acceptance.specs.declared.ordered_flow.OrderedFlow.{OrderedFlow}
use Rattle.flow_acceptance.specs.Free.{those_at}

-- the indices of the nodes of the flow graph, in that order
abbrev pub indices_in_order : OrderedFlow → List ℕ
indices_in_order accepted = accepted.order.nodes.items

-- the nodes themselves
abbrev pub nodes_in_order : OrderedFlow → List Node
nodes_in_order accepted = those_at (nodes_of accepted.flow) (indices_in_order accepted)

-- their locations
abbrev pub in_order : OrderedFlow → List ℕ
in_order accepted = map (λ location. location.number) accepted.order.locations.items
