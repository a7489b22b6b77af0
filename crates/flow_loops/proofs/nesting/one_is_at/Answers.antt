-- Of one_is_at: none of the nodes so far stands there; one that does ends it.
use Rattle.std.proofs.Common.{slice_index_or, sym, ◌∙◌}
use Rattle.std.proofs.lemmas.List.Elements.{Contains-get_or}
use Rattle.flow_loops.specs.Reached.{IsAt}
use Rattle.flow_loops.specs.Closing.{places_in}
use Rattle.flow_loops.proofs.Suches.{place_told, such_here, such_more, such_nowhere}
use Rattle.flow_loops.proofs.nesting.one_is_at.Goals as goal

pub location-requires : goal.location-requires
location-requires c =
    c.requires (slice_index_or c.args.nodes.now c.loop-node.node-index 0)
    (Contains-get_or c.args.nodes.now c.loop-node.node-index 0 c.loop-node-test.true)

pub returns-then-number : goal.returns-then-number
returns-then-number c =
    let flow = c.args.flow.now in
    let nodes = c.args.nodes.now in
    let k = c.loop-node.node-index in
    such_here (IsAt (places_in flow) c.args.location.number) nodes k c.loop-node-test.true
    (place_told flow (slice_index_or nodes k 0) c.location.result.number c.location.ensures ∙ sym c.number.ensures
    ∙ c.if-number.true ∙ c.number-in-loop-node.ensures)

pub loop-node-preserved : goal.loop-node-preserved
loop-node-preserved c =
    let flow = c.args.flow.now in
    let nodes = c.args.nodes.now in
    let k = c.loop-node.node-index in
    such_more (IsAt (places_in flow) c.args.location.number) nodes k c.loop-node-test.true c.loop-node.invariant
    (λ at. c.if-number.false
    (c.number.ensures ∙ sym (place_told flow (slice_index_or nodes k 0) c.location.result.number c.location.ensures)
    ∙ at ∙ sym c.number-in-loop-node.ensures))

pub returns : goal.returns
returns c =
    such_nowhere (IsAt (places_in c.args.flow.now) c.args.location.number) c.args.nodes.now c.loop-node.node-index
    c.loop-node-test.false c.loop-node.invariant
