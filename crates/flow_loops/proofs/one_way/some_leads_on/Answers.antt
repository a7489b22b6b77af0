-- Of some_leads_on: of the nodes so far none that is at this location has an edge that goes on to one of these.
use Rattle.std.proofs.Common.{◌≡◌, ℕ, sym, ◌∙◌, subst, arith}
use Rattle.base_graphs.specs.Graph.{row, size}
use Rattle.flow_graph.specs.Flow.{nodes_of}
use Rattle.flow_graph.specs.Found.{places_of}
use Rattle.flow_graph.proofs.Orders.{place_at}
use Rattle.flow_loops.specs.Closing.{places_in}
use Rattle.flow_loops.proofs.OneWays.{on_more, on_other, NoneOn}
use Rattle.flow_loops.proofs.one_way.some_leads_on.Goals as goal

pub loop-node-preserved-then-number : goal.loop-node-preserved-then-number
loop-node-preserved-then-number c =
    let flow = c.args.flow.now in
    let k = c.loop-node.node in
    on_other (row c.args.graph.now) c.args.ranks.now (places_in flow) k c.args.from.number
    (places_of c.args.targets.now) c.loop-node.invariant c.location.ensures.0.place
    (place_at (nodes_of flow) k c.location.ensures.0 c.location.ensures.1)
    (λ same. c.if-number.true
    (c.number.ensures ∙ c.location.ensures.2 ∙ same ∙ sym c.number-in-loop-node.ensures))

pub loop-node-preserved : goal.loop-node-preserved
loop-node-preserved c =
    on_more (row c.args.graph.now) c.args.ranks.now (places_in c.args.flow.now) c.loop-node.node c.args.from.number
    (places_of c.args.targets.now) c.loop-node.invariant (c.leads_on.ensures c.if-leads_on.false)

pub returns : goal.returns
returns c is_false =
    let all : c.loop-node.node ≡ size c.args.graph.now =
    omega (arith, c.loop-node-test.false, c.loop-node.auto.node-end, c.size-node-end.ensures) in
    subst
    (λ (n : ℕ). NoneOn (row c.args.graph.now) c.args.ranks.now (places_in c.args.flow.now) n c.args.from.number
    (places_of c.args.targets.now)) all c.loop-node.invariant
