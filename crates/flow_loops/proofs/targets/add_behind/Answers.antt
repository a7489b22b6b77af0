-- Of add_behind: the locations of the nodes so far are added, where their rank isn't above the
-- node's.
use Rattle.std.proofs.Common.{◌≡◌, ◌+◌, ◌∷◌, ℕ, List, Some, slice_index_or, take, ap, sym, ◌∙◌, subst, []}
use Rattle.std.proofs.Common.{arith}
use Rattle.std.specs.Prelude.{slice_get}
use Rattle.std.proofs.lemmas.List.{take_more}
use Rattle.flow_graph.specs.Executed.{with_new}
use Rattle.flow_graph.specs.Flow.{nodes_of}
use Rattle.flow_graph.specs.Found.{places_of}
use Rattle.flow_graph.proofs.Orders.{place_at}
use Rattle.flow_loops.specs.Closing.{places_in, AreAdded}
use Rattle.flow_loops.proofs.TargetLaws.{added_above, added_more, row_inside, row_ranked}
use Rattle.flow_loops.proofs.targets.add_behind.Goals as goal

pub offset_bounds-ranks-next : goal.offset_bounds-ranks-next
offset_bounds-ranks-next c =
    omega (
      arith,
      row_ranked c.args.graph.now c.args.node c.loop-next.next-index c.row-next-items.result.now c.args.ranks.now
          c.row-next-items.ensures c.loop-next-test.true c.requires.ranks,
      c.type_inv.next-items c.loop-next.next-index,
    )

pub bounds-ranks-next : goal.bounds-ranks-next
bounds-ranks-next c =
    row_ranked c.args.graph.now c.args.node c.loop-next.next-index c.row-next-items.result.now c.args.ranks.now
    c.row-next-items.ensures c.loop-next-test.true c.requires.ranks

pub loop-next-preserved-then-ranks-node : goal.loop-next-preserved-then-ranks-node
loop-next-preserved-then-ranks-node c =
    let row = c.row-next-items.result.now in
    let k = c.loop-next.next-index in
    let places = places_in c.args.flow.now in
    let before = places_of c.args.targets.now in
    let after = places_of c.loop-next.targets in
    subst (λ (nodes : List ℕ). AreAdded nodes c.args.ranks.now places c.args.node before after)
    (sym (take_more row k 0 c.loop-next-test.true))
    (added_above (take k row) c.args.ranks.now places c.args.node before after (slice_index_or row k 0)
    c.loop-next.invariant c.if-ranks-node.true)

pub location-requires : goal.location-requires
location-requires c =
    omega (
      arith,
      row_inside c.args.graph.now c.args.node c.loop-next.next-index c.row-next-items.result.now
          c.row-next-items.ensures c.loop-next-test.true,
      c.requires.size,
    )

pub loop-next-preserved : goal.loop-next-preserved
loop-next-preserved c =
    let row = c.row-next-items.result.now in
    let k = c.loop-next.next-index in
    let next = slice_index_or row k 0 in
    let places = places_in c.args.flow.now in
    let before = places_of c.args.targets.now in
    let after = places_of c.loop-next.targets in
    let place = c.location.result.number in
    let at : slice_get places next ≡ Some place =
    place_at (nodes_of c.args.flow.now) next c.location.ensures.0 c.location.ensures.1
    ∙ ap Some (sym c.location.ensures.2) in
    subst (λ (now : List ℕ). AreAdded (take (k + 1) row) c.args.ranks.now places c.args.node before now)
    (sym c.in_ok-add.ensures)
    (subst (λ (nodes : List ℕ). AreAdded nodes c.args.ranks.now places c.args.node before (with_new after (place ∷ [])))
    (sym (take_more row k 0 c.loop-next-test.true))
    (added_more (take k row) c.args.ranks.now places c.args.node before after next c.loop-next.invariant place at
    c.if-ranks-node.false))
