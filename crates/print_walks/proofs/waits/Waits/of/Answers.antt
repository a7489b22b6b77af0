-- Of Waits::of: sorting moves the sums of the kinds, and its key puts the dearest first, and of
-- those that cost the same the one that the walk comes to first.
use Rattle.std.proofs.Common.{map, ap, ◌∙◌, arith, ◌<◌, ◌^◌, rules}
use Rattle.std.proofs.lemmas.List.Sorted.{answers_always}
use Rattle.std.specs.Prelude.{sum_by}
use Rattle.base_notes.specs.Entries.{entry_in}
use Rattle.flow_walks.specs.Visited.{seen_visit}
use Rattle.bound_scan.specs.AnalysisOf.{angle_of, bound_of, visits_of}
use Rattle.print_hops.specs.Waits.{time_of}
use Rattle.print_hops.proofs.SameKinds.{reordered_same, unique_same}
use Rattle.print_hops.proofs.KindRows.{dearest_sorted, sort_key}
use Rattle.print_walks.specs.KindRows.{AreRows}
use Rattle.print_walks.proofs.WaitsFound.{are_waits, begun_in, row_short, spends, time_in}
use Rattle.print_walks.proofs.waits.Waits.of.Goals as goal

pub by_kind-requires-clause-short : goal.by_kind-requires-clause-short
by_kind-requires-clause-short c =
    omega (
      arith,
      ap (sum_by time_of) c.walk-walk.ensures.told,
      spends (visits_of c.args.analysis.now) (bound_of c.args.analysis.now) c.walk-walk.ensures.in_time,
      c.args.analysis.now.below,
    )

pub returns : goal.returns
returns c =
    let times = entry_in c.args.times.now in
    let analysis = c.args.analysis.now in
    let walk = c.walk-walk.result.now in
    let rows = c.sort_by_key.new.self in
    let before = c.in_ok-by_kind.ensures in
    let are : AreRows times c.angle-angle.result walk rows = record {
      found = λ kind.
          reordered_same c.in_ok-by_kind.by_kind rows c.sort_by_key.ensures.reordered.2 kind ∙ before.found kind;
      apart = unique_same rows c.sort_by_key.ensures.unique;
    } in
    let short : sum_by time_of (map seen_visit walk) < 2 ^ 50 =
    omega (
      arith,
      ap (sum_by time_of) c.walk-walk.ensures.told,
      spends (visits_of analysis) (bound_of analysis) c.walk-walk.ensures.in_time,
      analysis.below,
    ) in
    are_waits times c.angle-angle.result walk rows are (angle_of analysis) (visits_of analysis) c.angle-angle.ensures
    c.walk-walk.ensures.told _ (c.in_ok-rows.ensures.items ∙ c.as_slice.ensures ∙ c.values.ensures.rest)
    c.all_waits-waited.ensures
    (dearest_sorted time_in begun_in rows.entries
    (λ row has. omega (arith, row_short times c.angle-angle.result walk rows are row has, short))
    (c.in_ok-sort_by_key.ensures.sorted (sort_key time_in begun_in)
    (answers_always _ _ _ (λ f a r g h. search rules))))
