-- Of is_taken: a step may go on from the node that was found, or from none of those at the location.
use Rattle.std.proofs.Common.{◌≡◌, ℕ, List, length, sym, subst, ap, ◌∙◌}
use Rattle.std.specs.Prelude.{Contains}
use Rattle.std.proofs.lemmas.List.{take_all}
use Rattle.std.proofs.lemmas.Option.{same_Some, slice_get_within}
use Rattle.read_decks.specs.InDeck.{loads_in}
use Rattle.flow_graph.specs.Flow.{nodes_of}
use Rattle.flow_graph.specs.Hops as flow
use Rattle.print_graphs.proofs.Taken.{is_not_taken, is_taken_by, node_there, none_more}
use Rattle.print_graphs.proofs.onward.is_taken.Goals as goal

pub may_go-requires-clause-here : goal.may_go-requires-clause-here
may_go-requires-clause-here c =
    let nodes = nodes_of c.args.flow.now in
    let node = node_there nodes (length nodes) c.args.from.number c.args.nodes.now c.loop-node.node-index c.requires.all
    c.loop-node-test.true in
    slice_get_within nodes _ node.0 node.1

pub may_go-requires-clause-edge : goal.may_go-requires-clause-edge
may_go-requires-clause-edge c = λ from at.
    let loads = loads_in c.args.flow.now.deck.now in
    let notes = c.args.flow.now.notes.now in
    let nodes = nodes_of c.args.flow.now in
    let node = node_there nodes (length nodes) c.args.from.number c.args.nodes.now c.loop-node.node-index c.requires.all
    c.loop-node-test.true in
    let same : node.0 ≡ from = same_Some node.0 from (sym node.1 ∙ at) in
    subst (λ (place : ℕ). flow.IsEdge loads notes place c.args.onto.number)
    (sym node.2 ∙ ap (λ (one : flow.Node). one.place) same) c.requires.edge

pub returns-then-may_go : goal.returns-then-may_go
returns-then-may_go c =
    let nodes = nodes_of c.args.flow.now in
    let node = node_there nodes (length nodes) c.args.from.number c.args.nodes.now c.loop-node.node-index c.requires.all
    c.loop-node-test.true in
    let from = c.may_go.ensures in
    let same : node.0 ≡ from.0 = same_Some node.0 from.0 (sym node.1 ∙ from.1) in
    sym (is_taken_by c.args.flow.now.notes.now nodes c.args.from.number c.args.onto.number _ from.0 from.1
    (ap (λ (one : flow.Node). one.place) (sym same) ∙ node.2) (sym from.2 ∙ c.if-may_go.true))

pub loop-node-preserved : goal.loop-node-preserved
loop-node-preserved c =
    let from = c.may_go.ensures in
    none_more c.args.flow.now.notes.now (nodes_of c.args.flow.now) c.args.onto.number c.args.nodes.now
    c.loop-node.node-index from.0 c.loop-node-test.true from.1 (sym from.2 ∙ c.if-may_go.false) c.loop-node.invariant

pub returns : goal.returns
returns c =
    sym (is_not_taken c.args.flow.now.notes.now (nodes_of c.args.flow.now) c.args.from.number c.args.onto.number
    c.args.nodes.now c.requires.all
    (λ index one has at. c.loop-node.invariant index one
    (subst (λ (xs : List ℕ). Contains xs index)
    (sym (take_all c.loop-node.node-index c.args.nodes.now c.loop-node-test.false)) has) at))
