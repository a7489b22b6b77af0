-- Nodes of notes without calls: nothing is open at them, so they are their locations.
use Rattle.std.proofs.Common.{◌≡◌, ℕ, List, ◌∷◌, map, Option, ap, sym, ◌∙◌, subst, []}
use Rattle.std.specs.Prelude.{Contains}
use Rattle.base_words.specs.declared.word.Word.{Word}
use Rattle.base_notes.specs.declared.notes.call.Call.{Call}
use Rattle.base_notes.specs.Allowed.{Notes}
use Rattle.machine_steps.specs.Calls.{none_open, open_after, MayGo}
use Rattle.base_graphs.specs.Graph.{AreDifferent, GoOn}
use Rattle.base_graphs.proofs.Lists.{contains_here, contains_there}
use Rattle.flow_graph.specs.Accepted.{IsFree, IsFreeLink}
use Rattle.flow_graph.specs.Executed.{AreAllNodes}
use Rattle.flow_graph.specs.Flow.{AreFound}
use Rattle.flow_graph.specs.Hops.{edge_between, first_node, IsEdge, IsExecuted, IsLink, IsNode, Lead, Node}
use Rattle.flow_graph.proofs.Orders.{has_reached, node_of_place, place_of_node, reached_next, reached_only}
use Rattle.flow_acceptance.specs.Free.{IsFreeOrder, IsNodeOrder}

-- a node at which nothing is open
abbrev pub plain : ℕ → Node
plain place = record { place = place; ways = [] }

abbrev pub plains : List ℕ → List Node
plains places = map plain places

module _ (loads : ℕ → Option Word) (notes : Notes) where
  module _ (none : notes.calls ≡ []) where
    pub plain_link : (place next : ℕ) → IsEdge loads notes place next → IsLink loads notes (plain place) (plain next)
    plain_link place next edge = record {
      edge = edge;
      may = subst (λ (calls : List Call). MayGo calls [] (edge_between place next)) (sym none) tt;
      behind = sym (ap (λ (calls : List Call). open_after calls (edge_between place next) []) none);
    }

    lead_plain : (node last : Node) (through : List Node) → node.ways ≡ [] → Lead loads notes node through last
        → last.ways ≡ []
    lead_plain node last [] is lead = ap (λ (n : Node). n.ways) (sym lead) ∙ is
    lead_plain node last (next ∷ nexts) is lead =
        lead_plain next last nexts
        (lead.0.behind ∙ ap (λ (calls : List Call). open_after calls (edge_between node.place next.place) node.ways) none)
        lead.1

    module _ (start : ℕ) where
      pub executed_plain : (place : ℕ) → IsExecuted loads notes start place → IsNode loads notes start (plain place)
      executed_plain place (ways, (through, lead)) =
          subst (λ (w : List (Option ℕ)). IsNode loads notes start (record { place = place; ways = w }))
          (lead_plain (first_node notes start) (record { place = place; ways = ways }) through (ap none_open none) lead)
          (through, lead)

      -- where an edge leads from an executed location is executed
      pub executed_next : (place next : ℕ) → IsExecuted loads notes start place → IsEdge loads notes place next
          → IsExecuted loads notes start next
      executed_next place next executed edge = (
        [],
        reached_next loads notes start (plain place) (plain next) (executed_plain place executed)
            (plain_link place next edge),
      )

    pub plain_free : (place next : ℕ) → IsFree loads notes place next → IsFreeLink loads notes (plain place) (plain next)
    plain_free place next free = (plain_link place next free.0, free.1)

    module _ (start : ℕ) where
      -- nodes are their locations
      pub node_plain : (node : Node) → IsNode loads notes start node → plain node.place ≡ node
      node_plain node (through, lead) =
          ap (λ (w : List (Option ℕ)). let made : Node = record { place = node.place; ways = w } in made)
          (sym (lead_plain (first_node notes start) node through (ap none_open none) lead))

      pub places_different : (nodes : List Node) → ((node : Node) → Contains nodes node → IsNode loads notes start node)
          → AreDifferent nodes → AreDifferent (map (λ (node : Node). node.place) nodes)
      places_different [] are different = tt
      places_different (node ∷ nodes) are different = (
        λ there.
            let found = node_of_place nodes node.place there in
            different.0
            (subst (λ (n : Node). Contains nodes n)
            (sym (node_plain found.0 (are found.0 (contains_there node found.0 nodes found.1)))
            ∙ ap plain found.2 ∙ node_plain node (are node (contains_here node nodes))) found.1),
        places_different nodes (λ one there. are one (contains_there node one nodes there)) different.1,
      )

      onward_plain : (order : List Node) → ((node : Node) → Contains order node → IsNode loads notes start node)
          → GoOn (IsFreeLink loads notes) order → GoOn (IsFree loads notes) (map (λ (node : Node). node.place) order)
      onward_plain [] are onward = tt
      onward_plain (node ∷ nodes) are onward = (
        λ next free. place_of_node nodes (plain next)
            (onward.0 (plain next)
            (subst (λ (n : Node). IsFreeLink loads notes n (plain next)) (node_plain node (are node (contains_here node nodes)))
            (plain_free node.place next free))),
        onward_plain nodes (λ one there. are one (contains_there node one nodes there)) onward.1,
      )

      -- an order of the nodes is one of the executed locations
      pub order_plain : (nodes order : List Node) (executed : List ℕ) → AreAllNodes loads notes start nodes
          → AreFound loads notes start executed → IsNodeOrder loads notes nodes order
          → IsFreeOrder loads notes executed (map (λ (node : Node). node.place) order)
      order_plain nodes order executed are found free = record {
        all = λ place there. place_of_node order (plain place)
            (free.all (plain place)
            (has_reached loads notes start nodes are (plain place) (executed_plain start place (found.only place there))));
        only = λ place there.
            let node = node_of_place order place there in
            found.all place
            (subst (IsExecuted loads notes start) node.2
            (node.0.ways, reached_only loads notes start nodes are node.0 (free.only node.0 node.1)));
        different = places_different order
            (λ node there. reached_only loads notes start nodes are node (free.only node there)) free.different;
        onward = onward_plain order
            (λ node there. reached_only loads notes start nodes are node (free.only node there)) free.onward;
      }
