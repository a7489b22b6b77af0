-- Of edges_back: the edges are those from the locations so far. What one more location adds leads
-- from it, so no edge is there twice.
use Rattle.std.proofs.Common.{◌≡◌, ◌++◌, ◌∷◌, ℕ, List, Some, map, take, ap, sym, ◌∙◌, subst, []}
use Rattle.std.specs.Prelude.{slice_get, Contains}
use Rattle.std.proofs.lemmas.List.{take-map, take_all}
use Rattle.base_words.specs.declared.location.Location.{Location}
use Rattle.base_notes.specs.EdgeOf.{edge_of}
use Rattle.base_graphs.specs.Graph.{row, size}
use Rattle.flow_graph.specs.Flow.{executed_in}
use Rattle.flow_graph.specs.Found.{places_of}
use Rattle.flow_graph.proofs.Founds.{number_at, numbers, numbers_more}
use Rattle.flow_loops.specs.Closing.{places_in, AreBack, edges_onto}
use Rattle.flow_loops.proofs.Backs.{back_more, not_before}
use Rattle.flow_loops.proofs.closing.edges_back.Goals as goal

pub loop-from-preserved : goal.loop-from-preserved
loop-from-preserved c =
    let flow = c.args.flow.now in
    let graph = c.args.graph.now in
    let ranks = c.args.ranks.now in
    let places = places_in flow in
    let items = c.executed-from-items.result.now in
    let k = c.loop-from.from-index in
    let from = c.from-item.result in
    let before = numbers (take k items) in
    let edges = map edge_of c.loop-from.edges.items in
    let targets = places_of c.in_ok-targets.targets in
    let here : slice_get (executed_in flow) k ≡ Some from.number =
    number_at items (executed_in flow) k from c.executed-from-items.ensures.all c.loop-from-test.true c.from-item.is in
    let were : take k (executed_in flow) ≡ before =
    ap (take k) (sym c.executed-from-items.ensures.all) ∙ take-map (λ (one : Location). one.number) k items in
    let new : ¬ Contains before from.number = λ there.
    not_before (executed_in flow) k from.number c.executed-from-items.ensures.different here
    (subst (λ (ns : List ℕ). Contains ns from.number) (sym were) there) in
    let added : map edge_of c.add_edges.new.edges.items ≡ edges ++ edges_onto from.number targets =
    c.in_ok-add_edges.ensures ∙ ap (λ (ns : List ℕ). edges ++ edges_onto from.number ns) c.locations.ensures.all in
    subst
    (λ (froms : List ℕ). AreBack (row graph) ranks places (size graph) froms (map edge_of c.add_edges.new.edges.items))
    (sym (numbers_more items k from c.loop-from-test.true c.from-item.is))
    (subst (λ (all : List (ℕ × ℕ)). AreBack (row graph) ranks places (size graph) (before ++ from.number ∷ []) all)
    (sym added)
    (back_more (row graph) ranks places (size graph) before edges from.number targets c.loop-from.invariant new
    c.in_ok-targets.ensures c.locations.ensures.different))

pub returns : goal.returns
returns c =
    let flow = c.args.flow.now in
    let graph = c.args.graph.now in
    subst
    (λ (froms : List ℕ). AreBack (row graph) c.args.ranks.now (places_in flow) (size graph) froms
    (map edge_of c.loop-from.edges.items))
    (ap numbers (take_all c.loop-from.from-index c.executed-from-items.result.now c.loop-from-test.false)
    ∙ c.executed-from-items.ensures.all) c.loop-from.invariant
