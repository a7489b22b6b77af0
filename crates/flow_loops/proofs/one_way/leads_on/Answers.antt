-- Of leads_on: none of the nodes so far is ahead at one of these locations.
use Rattle.std.proofs.Common.{◌≡◌, ℕ, List, slice_index_or, take, ap, sym, ◌∙◌}
use Rattle.std.proofs.Common.{subst, arith}
use Rattle.std.specs.Prelude.{slice_get, Some, Contains}
use Rattle.std.proofs.lemmas.List.{take_more, take_all}
use Rattle.flow_graph.specs.Flow.{nodes_of}
use Rattle.flow_graph.specs.Found.{places_of}
use Rattle.flow_graph.proofs.Orders.{place_at}
use Rattle.flow_loops.specs.Closing.{places_in}
use Rattle.flow_loops.proofs.TargetLaws.{row_ranked}
use Rattle.flow_loops.proofs.OneWays.{absent_at, ahead_absent, ahead_low, NoneAhead}
use Rattle.flow_loops.proofs.one_way.leads_on.Goals as goal

pub offset_bounds-ranks-next : goal.offset_bounds-ranks-next
offset_bounds-ranks-next c =
    omega (
      arith,
      row_ranked c.args.graph.now c.args.node c.loop-next.next-index c.row-next-items.result.now c.args.ranks.now
          c.row-next-items.ensures c.loop-next-test.true c.requires.ranks,
      c.type_inv.next-items c.loop-next.next-index,
    )

pub bounds-ranks-next : goal.bounds-ranks-next
bounds-ranks-next c =
    row_ranked c.args.graph.now c.args.node c.loop-next.next-index c.row-next-items.result.now c.args.ranks.now
    c.row-next-items.ensures c.loop-next-test.true c.requires.ranks

pub loop-next-preserved-then-ranks-next : goal.loop-next-preserved-then-ranks-next
loop-next-preserved-then-ranks-next c =
    let row = c.row-next-items.result.now in
    let k = c.loop-next.next-index in
    let places = places_in c.args.flow.now in
    let targets = places_of c.args.targets.now in
    subst (λ (nodes : List ℕ). NoneAhead nodes c.args.ranks.now places c.args.node targets)
    (sym (take_more row k 0 c.loop-next-test.true))
    (ahead_low (take k row) c.args.ranks.now places c.args.node targets (slice_index_or row k 0) c.loop-next.invariant
    c.if-ranks-next.true)

pub loop-next-preserved : goal.loop-next-preserved
loop-next-preserved c =
    let row = c.row-next-items.result.now in
    let k = c.loop-next.next-index in
    let next = slice_index_or row k 0 in
    let places = places_in c.args.flow.now in
    let targets = places_of c.args.targets.now in
    let place = c.location.result.number in
    let at : slice_get places next ≡ Some place =
    place_at (nodes_of c.args.flow.now) next c.location.ensures.0 c.location.ensures.1
    ∙ ap Some (sym c.location.ensures.2) in
    let absent : ¬ Contains targets place =
    absent_at c.index_of.result targets place (sym c.is_some.ensures ∙ c.if-is_some.false) c.index_of.ensures.none in
    subst (λ (nodes : List ℕ). NoneAhead nodes c.args.ranks.now places c.args.node targets)
    (sym (take_more row k 0 c.loop-next-test.true))
    (ahead_absent (take k row) c.args.ranks.now places c.args.node targets next c.loop-next.invariant place at absent)

pub returns : goal.returns
returns c is_false =
    subst
    (λ (nodes : List ℕ). NoneAhead nodes c.args.ranks.now (places_in c.args.flow.now) c.args.node
    (places_of c.args.targets.now))
    (take_all c.loop-next.next-index c.row-next-items.result.now c.loop-next-test.false ∙ c.row-next-items.ensures)
    c.loop-next.invariant
