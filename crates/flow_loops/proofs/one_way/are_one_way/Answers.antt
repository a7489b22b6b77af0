-- Of are_one_way: from none of the locations so far does an edge both go on and lead back.
use Rattle.std.proofs.Common.{take, ap, sym, ◌∙◌, subst}
use Rattle.std.proofs.lemmas.List.{take_all}
use Rattle.base_graphs.specs.Graph.{row, size}
use Rattle.flow_graph.specs.Found.{places_of}
use Rattle.flow_graph.proofs.Founds.{numbers, numbers_more}
use Rattle.flow_loops.specs.Closing.{places_in}
use Rattle.flow_loops.specs.Spared.{AreOneWay}
use Rattle.flow_loops.proofs.OneWays.{one_way_more}
use Rattle.flow_loops.proofs.one_way.are_one_way.Goals as goal

pub loop-from-preserved : goal.loop-from-preserved
loop-from-preserved c =
    let graph = c.args.graph.now in
    let ranks = c.args.ranks.now in
    let places = places_in c.args.flow.now in
    let items = c.executed-from-items.result.now in
    let k = c.loop-from.from-index in
    let from = c.from-item.result in
    subst (AreOneWay (row graph) ranks places (size graph))
    (sym (numbers_more items k from c.loop-from-test.true c.from-item.is))
    (one_way_more (row graph) ranks places (size graph) (numbers (take k items)) from.number
    (places_of c.in_ok-targets.targets) c.loop-from.invariant c.in_ok-targets.ensures
    (c.some_leads_on.ensures c.if-some_leads_on.false))

pub returns : goal.returns
returns c is_true =
    subst (AreOneWay (row c.args.graph.now) c.args.ranks.now (places_in c.args.flow.now) (size c.args.graph.now))
    (ap numbers (take_all c.loop-from.from-index c.executed-from-items.result.now c.loop-from-test.false)
    ∙ c.executed-from-items.ensures.all) c.loop-from.invariant
