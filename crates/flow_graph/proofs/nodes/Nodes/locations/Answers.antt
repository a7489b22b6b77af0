use Rattle.std.proofs.Common.{◌≡◌, ℕ, List, [], ◌∷◌, ◌++◌, map, take, length, eqb, ap, sym, ◌∙◌, subst, get_or, ◌<◌, ◌≤◌}
use Rattle.std.proofs.lemmas.Bool.Decides.{Decides-eqb}
use Rattle.std.proofs.lemmas.List.{map-append, map_more, take_all, take-map}
use Rattle.flow_graph.specs.declared.node.Node as held
use Rattle.flow_graph.specs.Executed.{each_place, with_new}
use Rattle.flow_graph.specs.InNodes.{node_of}
use Rattle.flow_graph.specs.Hops.{Node}
use Rattle.flow_graph.proofs.Adding.{grown_append}
use Rattle.flow_graph.proofs.nodes.Nodes.locations.Goals as goal

-- the locations of nodes and of one more
each_more : (nodes : List Node) (node : Node)
    → each_place (nodes ++ node ∷ []) ≡ with_new (each_place nodes) (node.place ∷ [])
each_more nodes node =
    ap (with_new []) (map-append (λ (one : Node). one.place) nodes (node ∷ []))
    ∙ grown_append eqb Decides-eqb [] (map (λ (one : Node). one.place) nodes) (node.place ∷ [])

pub loop-node-preserved : goal.loop-node-preserved
loop-node-preserved c =
    let keys = take 65536 c.args.self.now.nodes.keys.items in
    let view : held.Node → Node = node_of c.args.calls.now c.args.self.now.openings.items in
    let k = c.loop-node.node-index in
    let node = c.node-item.result in
    let items = c.first-node-items.ensures in
    let here : node ≡ get_or keys k node = c.node-item.is ∙ ap (λ (ns : List held.Node). get_or ns k node) items in
    c.in_ok-add.ensures
    ∙ ap (λ (places : List ℕ). with_new places (c.node-item.result.location.number ∷ [])) c.loop-node.invariant
    ∙ sym (each_more (map view (take k keys)) (view c.node-item.result))
    ∙ ap each_place (sym (map_more view keys k node (subst (λ (ns : List held.Node). k < length ns) items c.loop-node-test.true)
    ∙ ap (λ (n : held.Node). map view (take k keys) ++ view n ∷ []) (sym here)))

pub returns : goal.returns
returns c =
    let view : held.Node → Node = node_of c.args.calls.now c.args.self.now.openings.items in
    let keys = c.args.self.now.nodes.keys.items in
    c.loop-node.invariant
    ∙ ap (λ (ns : List held.Node). each_place (map view ns))
    (take_all c.loop-node.node-index (take 65536 keys)
    (subst (λ (ns : List held.Node). length ns ≤ c.loop-node.node-index) c.first-node-items.ensures
    c.loop-node-test.false))
    ∙ ap each_place (sym (take-map view 65536 keys))
