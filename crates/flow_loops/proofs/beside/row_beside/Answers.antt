-- Of row_beside: the nodes so far are kept but for those whose locations' edge is one of these.
use Rattle.std.proofs.Common.{◌≡◌, ◌+◌, ◌++◌, ◌∷◌, Bool, true, false, ℕ, List, map, slice_index_or, take, ap, []}
use Rattle.std.proofs.Common.{sym, ◌∙◌, subst, arith}
use Rattle.std.specs.Prelude.{slice_get, slice_index, Some, Contains}
use Rattle.std.proofs.lemmas.List.{take_more}
use Rattle.std.proofs.lemmas.Option.{get_or_from_slice_get}
use Rattle.flow_graph.specs.declared.flow_graph.Flow.{Flow}
use Rattle.flow_graph.specs.Flow.{nodes_of}
use Rattle.flow_graph.specs.Hops.{Node}
use Rattle.flow_graph.proofs.Orders.{place_at}
use Rattle.base_notes.specs.EdgeOf.{edge_of}
use Rattle.flow_loops.specs.Closing.{places_in}
use Rattle.flow_loops.specs.Spared.{edge_at, IsRowBeside}
use Rattle.flow_loops.proofs.TargetLaws.{row_inside}
use Rattle.flow_loops.proofs.Besides.{beside_more, beside_there}
use Rattle.flow_loops.proofs.beside.row_beside.Goals as goal

-- the locations of two nodes
edge_of_nodes : (flow : Flow) (k j from onto : ℕ)
    → (one : Node) × (slice_get (nodes_of flow) k ≡ Some one) × (from ≡ one.place)
    → (one : Node) × (slice_get (nodes_of flow) j ≡ Some one) × (onto ≡ one.place)
    → (from, onto) ≡ edge_at (places_in flow) k j
edge_of_nodes flow k j from onto begins ends =
    ap (λ (n : ℕ). (n, onto)) (place k from begins)
    ∙ ap (λ (n : ℕ). (slice_index (places_in flow) k, n)) (place j onto ends)
  where
    place : (k number : ℕ) → (one : Node) × (slice_get (nodes_of flow) k ≡ Some one) × (number ≡ one.place)
        → number ≡ slice_index (places_in flow) k
    place k number at =
        at.2 ∙ sym (get_or_from_slice_get (places_in flow) k at.0.place 0 (place_at (nodes_of flow) k at.0 at.1))

pub location-requires : goal.location-requires
location-requires c =
    omega (
      arith,
      row_inside c.args.graph.now c.args.node c.loop-next.next-index c.row-next-items.result.now
          c.row-next-items.ensures c.loop-next-test.true,
      c.requires.size,
    )

pub loop-next-preserved-then-has_edge : goal.loop-next-preserved-then-has_edge
loop-next-preserved-then-has_edge c =
    let flow = c.args.flow.now in
    let edges = map edge_of c.args.edges.now in
    let row = c.row-next-items.result.now in
    let k = c.loop-next.next-index in
    let next = slice_index_or row k 0 in
    subst (λ (nodes : List ℕ). IsRowBeside (places_in flow) edges c.args.node nodes c.loop-next.rest.items)
    (sym (take_more row k 0 c.loop-next-test.true))
    (beside_there (places_in flow) edges c.args.node (take k row) c.loop-next.rest.items next c.loop-next.invariant
    (subst (λ (pair : ℕ × ℕ). Contains edges pair)
    (edge_of_nodes flow c.args.node next c.location-from.result.number c.location.result.number c.location-from.ensures
    c.location.ensures) (c.has_edge.ensures.0 c.if-has_edge.true)))

pub loop-next-preserved : goal.loop-next-preserved
loop-next-preserved c =
    let flow = c.args.flow.now in
    let edges = map edge_of c.args.edges.now in
    let row = c.row-next-items.result.now in
    let k = c.loop-next.next-index in
    let next = slice_index_or row k 0 in
    let none : ¬ Contains edges (c.location-from.result.number, c.location.result.number) = λ there.
    let clash : ◌≡◌ {A = Bool} true false = sym (c.has_edge.ensures.1 there) ∙ c.if-has_edge.false in cc in
    subst (IsRowBeside (places_in flow) edges c.args.node (take (k + 1) row)) (sym c.in_ok-push.ensures.items)
    (subst
    (λ (nodes : List ℕ). IsRowBeside (places_in flow) edges c.args.node nodes (c.loop-next.rest.items ++ next ∷ []))
    (sym (take_more row k 0 c.loop-next-test.true))
    (beside_more (places_in flow) edges c.args.node (take k row) c.loop-next.rest.items next c.loop-next.invariant
    (subst (λ (pair : ℕ × ℕ). ¬ Contains edges pair)
    (edge_of_nodes flow c.args.node next c.location-from.result.number c.location.result.number c.location-from.ensures
    c.location.ensures) none)))
