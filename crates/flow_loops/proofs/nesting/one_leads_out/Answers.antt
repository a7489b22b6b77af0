-- Of one_leads_out: none of the nodes so far leads out so; one that does ends it.
use Rattle.std.proofs.Common.{slice_index_or}
use Rattle.std.proofs.lemmas.List.Elements.{Contains-get_or}
use Rattle.base_notes.specs.EdgeOf.{edge_of}
use Rattle.base_graphs.specs.Graph.{row}
use Rattle.flow_loops.specs.Reached.{LeadsOut}
use Rattle.flow_loops.specs.Closing.{places_in}
use Rattle.flow_loops.proofs.Suches.{denied, such_more, such_nowhere}
use Rattle.flow_loops.proofs.nesting.one_leads_out.Goals as goal

pub leads_out-requires-clause-within : goal.leads_out-requires-clause-within
leads_out-requires-clause-within c =
    c.requires.within (slice_index_or c.args.nodes.now c.loop-node.node-index 0)
    (Contains-get_or c.args.nodes.now c.loop-node.node-index 0 c.loop-node-test.true)

pub loop-node-preserved : goal.loop-node-preserved
loop-node-preserved c =
    let nodes = c.args.nodes.now in
    let k = c.loop-node.node-index in
    such_more (LeadsOut (row c.args.graph.now) (places_in c.args.flow.now) (edge_of c.args.edge)) nodes k
    c.loop-node-test.true c.loop-node.invariant
    (denied c.leads_out.result (LeadsOut (row c.args.graph.now) (places_in c.args.flow.now) (edge_of c.args.edge) (slice_index_or nodes k 0))
    c.if-leads_out.false c.leads_out.ensures)

pub returns : goal.returns
returns c =
    such_nowhere (LeadsOut (row c.args.graph.now) (places_in c.args.flow.now) (edge_of c.args.edge)) c.args.nodes.now
    c.loop-node.node-index c.loop-node-test.false c.loop-node.invariant
