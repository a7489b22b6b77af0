-- Of targets_behind: the locations are those to which the edges of the nodes so far lead back, of
-- those at this location.
use Rattle.std.proofs.Common.{◌≡◌, Some, ap, sym, ◌∙◌}
use Rattle.base_graphs.specs.Graph.{row}
use Rattle.flow_graph.specs.Flow.{nodes_of}
use Rattle.flow_graph.specs.Found.{places_of}
use Rattle.flow_graph.proofs.Orders.{place_at}
use Rattle.flow_loops.specs.Closing.{places_in}
use Rattle.flow_loops.proofs.TargetLaws.{targets_more, targets_other}
use Rattle.flow_loops.proofs.targets.targets_behind.Goals as goal

pub loop-node-preserved-then-number : goal.loop-node-preserved-then-number
loop-node-preserved-then-number c =
    let flow = c.args.flow.now in
    let k = c.loop-node.node in
    targets_other (row c.args.graph.now) c.args.ranks.now (places_in flow) k c.args.from.number
    (places_of c.loop-node.targets) c.loop-node.invariant c.location.ensures.0.place
    (place_at (nodes_of flow) k c.location.ensures.0 c.location.ensures.1)
    (λ same. c.if-number.true
    (c.number.ensures ∙ c.location.ensures.2 ∙ same ∙ sym c.number-in-loop-node.ensures))

pub loop-node-preserved : goal.loop-node-preserved
loop-node-preserved c =
    let flow = c.args.flow.now in
    let k = c.loop-node.node in
    let same : c.location.ensures.0.place ≡ c.args.from.number =
    sym c.location.ensures.2 ∙ sym c.number.ensures ∙ c.if-number.false ∙ c.number-in-loop-node.ensures in
    targets_more (row c.args.graph.now) c.args.ranks.now (places_in flow) k c.args.from.number
    (places_of c.loop-node.targets) c.loop-node.invariant (places_of c.add_behind.new.targets)
    (place_at (nodes_of flow) k c.location.ensures.0 c.location.ensures.1 ∙ ap Some same) c.in_ok-add_behind.ensures
