-- Of Scan::walk: from the latest end back, each hop begins with what is kept at its key, which came
-- from an earlier key or is the start's. So the start is reached, and the hops in reverse are a
-- walk; the passes are counted on the way.
use Rattle.std.proofs.Common.{◌≡◌, ℕ, ◌-◌, List, Some, map, reverse, ap, arith, sym, ◌∙◌, subst}
use Rattle.std.specs.Prelude.{option_map, slice_get}
use Rattle.base_notes.specs.declared.notes.mark.Mark.{Mark}
use Rattle.flow_walks.specs.declared.visit.Visit.{Visit}
use Rattle.flow_walks.specs.Visited.{IsWalkOf, seen_visit}
use Rattle.bound_scan.specs.AnalysisOf.{ArePasses}
use Rattle.bound_scan.specs.KeysOf.{marks_in}
use Rattle.bound_scan.specs.declared.latest.Latest.{Latest}
use Rattle.bound_scan.specs.ScanOf.{order_of, setting_in}
use Rattle.bound_scan.specs.Scanned.{cell_at}
use Rattle.bound_scan.specs.Table.{start_angle}
use Rattle.bound_scan.proofs.Finished.{is_ordered, starts_on_drum}
use Rattle.bound_scan.proofs.Traces.{IsTraced, begins_before, falls, key_after, origin_kept, passes_more, trace_more}
use Rattle.bound_scan.proofs.Traces.{trace_whole}
use Rattle.bound_scan.specs.InCells.{kept_in}
use Rattle.bound_scan.proofs.scan.Scan.walk.Goals as goal

pub visit-visit-requires-clause-from : goal.visit-visit-requires-clause-from
visit-visit-requires-clause-from g c =
    let scan = c.args.self.now in
    origin_kept (setting_in scan) (order_of scan) (kept_in scan.cells) scan.cells.last (is_ordered scan c.requires)
    (starts_on_drum scan) c.requires.scanned
    c.loop-end.end c.loop-end.visits.items c.in-Some.origin c.loop-end.invariant.traced c.in-Some.is

pub visit-visit-requires-clause-later : goal.visit-visit-requires-clause-later
visit-visit-requires-clause-later g c =
    let scan = c.args.self.now in
    let there : cell_at (kept_in scan.cells) c.in-Some.origin.key ≡ Some c.in-Some-kept_at.begin =
    sym c.kept_at.ensures ∙ ap (option_map (λ (kept : ℕ × Latest). kept.1)) c.in-Some-kept_at.is in
    begins_before (setting_in scan) (order_of scan) (kept_in scan.cells) scan.cells.last (is_ordered scan c.requires)
    (starts_on_drum scan) c.requires.scanned
    c.loop-end.end c.loop-end.visits.items c.in-Some.origin c.in-Some-kept_at.begin c.loop-end.invariant.traced c.in-Some.is
    there

pub loop-end-preserved : goal.loop-end-preserved
loop-end-preserved g c =
    let scan = c.args.self.now in
    let visits = c.loop-end.visits.items in
    let visit = c.visit-visit.result in
    let begin = c.in-Some-kept_at.begin in
    let new = c.count_passes.new.passed in
    let there : cell_at (kept_in scan.cells) c.in-Some.origin.key ≡ Some begin =
    sym c.kept_at.ensures ∙ ap (option_map (λ (kept : ℕ × Latest). kept.1)) c.in-Some-kept_at.is in
    let marks : c.marks-marks.result.now ≡ marks_in scan.keys.now = c.marks-marks.ensures.all in
    record {
      traced = subst (λ (all : List Visit).
          IsTraced (setting_in scan) (order_of scan) (kept_in scan.cells) scan.cells.last begin all)
          (sym {A = List Visit} c.in_ok-push.ensures.items)
          (trace_more (setting_in scan) (order_of scan) (kept_in scan.cells) scan.cells.last (is_ordered scan c.requires)
          (starts_on_drum scan) c.requires.scanned c.loop-end.end begin visits c.in-Some.origin visit
          c.loop-end.invariant.traced c.in-Some.is there c.visit-visit.ensures);
      passes = subst (λ (all : List Visit). ArePasses (marks_in scan.keys.now) (map seen_visit (reverse all)) new)
          (sym {A = List Visit} c.in_ok-push.ensures.items)
          (passes_more (marks_in scan.keys.now) visits visit c.loop-end.passed new c.loop-end.invariant.passes
          (λ k mark at. c.count_passes.ensures.counted k mark
          (subst (λ (all : List Mark). slice_get all k ≡ Some mark) (sym marks) at)));
      first = c.index_at-index.ensures.first;
      few = λ k.
          omega (
            arith,
            c.loop-end.invariant.few k,
            c.count_passes.ensures.once k,
            ap key_after c.in-Some.is,
            falls (setting_in scan) (order_of scan) (kept_in scan.cells) scan.cells.last (is_ordered scan c.requires)
                (starts_on_drum scan) c.requires.scanned c.in-Some.origin begin there,
          );
    }

pub returns-clause-walk : goal.returns-clause-walk
returns-clause-walk g c =
    let scan = c.args.self.now in
    subst (λ (visits : List Visit).
    IsWalkOf (setting_in scan) (start_angle (setting_in scan).start)
    (scan.cells.last.clock - start_angle (setting_in scan).start) (map seen_visit visits))
    (sym {A = List Visit} c.reverse.ensures.items)
    (trace_whole (setting_in scan) (order_of scan) (kept_in scan.cells) scan.cells.last (is_ordered scan c.requires)
    (starts_on_drum scan) c.requires.scanned
    c.loop-end.end c.loop-end.visits.items c.loop-end.invariant.traced c.in_default.is)

pub loop-end-smaller : goal.loop-end-smaller
loop-end-smaller g c =
    let scan = c.args.self.now in
    let begin = c.in-Some-kept_at.begin in
    let there : cell_at (kept_in scan.cells) c.in-Some.origin.key ≡ Some begin =
    sym c.kept_at.ensures ∙ ap (option_map (λ (kept : ℕ × Latest). kept.1)) c.in-Some-kept_at.is in
    omega (
      arith,
      ap key_after c.in-Some.is,
      falls (setting_in scan) (order_of scan) (kept_in scan.cells) scan.cells.last (is_ordered scan c.requires)
          (starts_on_drum scan) c.requires.scanned c.in-Some.origin begin there,
    )
