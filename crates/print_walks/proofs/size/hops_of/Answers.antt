use Rattle.std.proofs.Common.{◌≡◌, ℕ, ◌<◌, length, Some, get_or, ap, sym, ◌∙◌, arith}
use Rattle.std.specs.Prelude.{slice_get}
use Rattle.std.proofs.lemmas.List.Sums.{sum_by_more}
use Rattle.std.proofs.lemmas.Option.{same_Some, slice_get-get_or, slice_get_within}
use Rattle.read_decks.specs.InDeck.{loads_in}
use Rattle.flow_graph.proofs.Founds.{number_at}
use Rattle.flow_graph.specs.Flow.{deck_of, executed_in, notes_of}
use Rattle.flow_graph.specs.Hops.{hops}
use Rattle.print_walks.proofs.size.hops_of.Goals as goal

pub loop-location-preserved : goal.loop-location-preserved
loop-location-preserved c =
    let flow = c.args.flow.now in
    let places = executed_in flow in
    let k = c.loop-location.location-index in
    let place = c.location-item.result.number in
    let many : ℕ → ℕ = λ one. length (hops (loads_in (deck_of flow)) (notes_of flow) one) in
    let here : slice_get places k ≡ Some place =
    number_at c.executed-location-items.result.now places k c.location-item.result
    c.executed-location-items.ensures.all c.loop-location-test.true c.location-item.is in
    let inside : k < length places = slice_get_within places k place here in
    let same : get_or places k place ≡ place =
    same_Some (get_or places k place) place (sym (slice_get-get_or places k place inside) ∙ here) in (
      omega (
        arith,
        c.loop-location.invariant.0,
        c.hops_at-sum.ensures.count,
        ap many same,
        sum_by_more many places k place inside,
      ),
      omega (arith, c.loop-location.invariant.1, c.hops_at-sum.ensures.few),
    )
