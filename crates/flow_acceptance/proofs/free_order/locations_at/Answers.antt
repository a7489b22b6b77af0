-- Of locations_at: each index is that of a node, so it can be looked up; the locations so far are those of the nodes
-- at the indices so far.
use Rattle.std.proofs.Common.{◌∙◌, get_or, ap}
use Rattle.std.proofs.lemmas.List.Elements.{Contains-get_or}
use Rattle.flow_graph.specs.Flow.{nodes_of}
use Rattle.flow_graph.proofs.Founds.{numbers}
use Rattle.flow_acceptance.proofs.Translations.{locations_more}
use Rattle.flow_acceptance.proofs.free_order.locations_at.Goals as goal

pub location-requires : goal.location-requires
location-requires c =
    let indices = c.args.indices.now in
    let k = c.loop-index.index-index in
    c.requires (get_or indices k 0) (Contains-get_or indices k 0 c.loop-index-test.true)

pub loop-index-preserved : goal.loop-index-preserved
loop-index-preserved c =
    let k = c.loop-index.index-index in
    ap numbers c.in_ok-push.ensures.items
    ∙ locations_more (nodes_of c.args.flow.now) c.loop-index.locations.items c.args.indices.now k c.location.ensures.0
    c.location.result c.loop-index-test.true c.location.ensures.1 c.location.ensures.2 c.loop-index.invariant
