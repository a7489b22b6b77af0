-- Of Graph::nodes_of: the nodes so far are those of the executed locations so far, in order.
use Rattle.std.proofs.Common.{◌≡◌, [], ◌∷◌, ◌++◌, map, ap, ◌∙◌, Some}
use Rattle.std.specs.Prelude.{slice_get}
use Rattle.std.proofs.lemmas.List.{map-append}
use Rattle.read_decks.specs.InDeck.{loads_in}
use Rattle.flow_graph.proofs.Founds.{number_at}
use Rattle.flow_graph.specs.Flow.{executed_in, nodes_of}
use Rattle.flow_acceptance.proofs.Alterations.{all_taken}
use Rattle.print_graphs.specs.Graph.{node}
use Rattle.print_graphs.specs.GraphOf.{node_of}
use Rattle.print_graphs.proofs.Nodes.{node_more}
use Rattle.print_graphs.proofs.graph.Graph.nodes_of.Goals as goal

pub loop-location-preserved : goal.loop-location-preserved
loop-location-preserved c =
    let flow = c.args.flow.now in
    let executed = executed_in flow in
    let k = c.loop-location.location-index in
    let location = c.location-item.result in
    let before = c.loop-location.nodes.items in
    let one = c.in_ok-of.field-0 in
    let here : slice_get executed k ≡ Some location.number =
    number_at c.executed-location-items.result.now executed k location c.executed-location-items.ensures.all
    c.loop-location-test.true c.location-item.is in
    let added : map node_of c.push.new.self.items ≡ map node_of before ++ node_of one ∷ [] =
    ap (map node_of) c.in_ok-push.ensures.items ∙ map-append node_of before (one ∷ []) in
    node_more (node (loads_in flow.deck.now) flow.notes.now (nodes_of flow)) (map node_of before)
    (map node_of c.push.new.self.items) executed k location.number (node_of one) here c.loop-location.invariant
    c.in_ok-of.ensures added

pub returns : goal.returns
returns c =
    let flow = c.args.flow.now in
    c.loop-location.invariant
    ∙ ap (map (node (loads_in flow.deck.now) flow.notes.now (nodes_of flow)))
    (all_taken c.executed-location-items.result.now (executed_in flow) c.loop-location.location-index
    c.executed-location-items.ensures.all c.loop-location-test.false)
