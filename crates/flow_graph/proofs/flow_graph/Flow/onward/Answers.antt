use Rattle.std.proofs.Common.{◌≡◌, ℕ, ◌∷◌, Option, IfSome, IfNone, ap, sym, ◌∙◌, subst, Some, None, []}
use Rattle.std.proofs.lemmas.Option.{same_Some, slice_get-map}
use Rattle.std.specs.Prelude.{option_map, slice_get, Contains}
use Rattle.base_graphs.proofs.Lists.{contains_from_get}
use Rattle.flow_graph.specs.Executed.{onward}
use Rattle.flow_graph.specs.Flow.{nodes_of}
use Rattle.flow_graph.specs.InNodes.{node_in}
use Rattle.flow_graph.specs.Hops.{Node}
use Rattle.flow_graph.proofs.flow_graph.Flow.onward.Goals as goal

some_weaker : (found : Option ℕ) (P Q : ℕ → Type 0) → ((k : ℕ) → P k → Q k) → IfSome found P → IfSome found Q
some_weaker None P Q all is = tt
some_weaker (Some k) P Q all is = all k is

none_weaker : (found : Option ℕ) (P Q : Type 0) → (P → Q) → IfNone found P → IfNone found Q
none_weaker None P Q all is = all is
none_weaker (Some k) P Q all is = tt

-- the node that is gone on from
here : (c : goal.After-index_onward) → slice_get (nodes_of c.args.self.now) c.args.node
    ≡ Some (node_in c.args.self.now.notes.now.calls c.args.self.now.nodes c.at.result)
here c =
    let flow = c.args.self.now in
    let view = node_in flow.notes.now.calls flow.nodes in
    slice_get-map view flow.nodes.nodes.keys.items c.args.node ∙ ap (option_map view) c.at.ensures.value

pub index_onward-requires-clause-from : goal.index_onward-requires-clause-from
index_onward-requires-clause-from c =
    c.args.self.now.held.within c.at.result
    (contains_from_get c.args.self.now.nodes.nodes.keys.items c.args.node c.at.result c.at.ensures.value)

pub returns-clause-found : goal.returns-clause-found
returns-clause-found c =
    let flow = c.args.self.now in
    let view = node_in flow.notes.now.calls flow.nodes in
    some_weaker c.index_onward.result
    (λ index. (next : Node) × (slice_get (nodes_of flow) index ≡ Some next)
    × (onward flow.notes.now (view c.at.result) c.args.onto.number ≡ next ∷ []))
    (λ index. (from next : Node) × (slice_get (nodes_of flow) c.args.node ≡ Some from)
    × (slice_get (nodes_of flow) index ≡ Some next)
    × (onward flow.notes.now from c.args.onto.number ≡ next ∷ []))
    (λ index found. (view c.at.result, found.0, here c, found.1, found.2)) c.index_onward.ensures.found

pub returns-clause-none : goal.returns-clause-none
returns-clause-none c =
    let flow = c.args.self.now in
    let view = node_in flow.notes.now.calls flow.nodes in
    none_weaker c.index_onward.result
    ((next : Node) → Contains (nodes_of flow) next
    → ¬ Contains (onward flow.notes.now (view c.at.result) c.args.onto.number) next)
    ((from next : Node) → slice_get (nodes_of flow) c.args.node ≡ Some from → Contains (nodes_of flow) next
    → ¬ Contains (onward flow.notes.now from c.args.onto.number) next)
    (λ none from next at there onto. none next there
    (subst (λ (n : Node). Contains (onward flow.notes.now n c.args.onto.number) next)
    (same_Some from (view c.at.result) (sym at ∙ here c)) onto)) c.index_onward.ensures.none
