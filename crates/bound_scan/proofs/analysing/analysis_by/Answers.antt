-- Of analysis_by: the finished scan and the walk that is followed back from its latest end are a
-- found analysis (IsFound), whose bound, walk and table are right of the keys' walks.
use Rattle.std.proofs.Common.{◌≡◌, ℕ, ◌-◌, List, Vec, Global, length, map, ap, sym, subst, arith}
use Rattle.std.proofs.lemmas.List.{length-map}
use Rattle.base_notes.specs.declared.times.Times.{Times}
use Rattle.flow_graph.specs.Flow.{deck_of}
use Rattle.flow_acceptance.specs.OrderedFlow.{in_order}
use Rattle.flow_walks.specs.declared.visit.Visit.{Visit}
use Rattle.flow_walks.specs.Visited.{AreInTime, AreLongest, IsWalkOf, Visited, seen_visit, visited}
use Rattle.bound_scan.specs.declared.analysis.Analysis.{Analysis}
use Rattle.bound_scan.specs.declared.cells.Cells.{Cells}
use Rattle.bound_scan.specs.declared.keys.Keys.{Keys}
use Rattle.bound_scan.specs.AnalysisOf.{ArePasses}
use Rattle.bound_scan.specs.KeysOf.{marks_in, setting_of}
use Rattle.bound_scan.specs.OfCells.{Backs, IsOfCells}
use Rattle.bound_scan.specs.Table.{start_angle}
use Rattle.bound_scan.proofs.Analyses.{IsFound, is_found, is_analysis, last_after}
use Rattle.bound_scan.proofs.InTime.{walk_in_time}
use Rattle.bound_scan.proofs.ShortWalks.{short_walk}
use Rattle.bound_scan.proofs.analysing.analysis_by.Goals as goal

-- the bound, from the start angle
bound : (keys : Keys) (times : Times) (cells : Cells) (made : ℕ) (visits : List Visited)
    → IsFound keys times cells made visits
    → cells.last.clock - cells.entries.angle ≡ cells.last.clock - start_angle (setting_of keys.accepted.now times).start
bound keys times cells made visits is = ap (λ (n : ℕ). cells.last.clock - n) is.are.angle

pub of-requires-2 : goal.of-requires-2
of-requires-2 v c =
    let keys = c.args.keys.now in
    let times = c.args.times.now in
    let cells = c.in_ok-scan.scan.cells in
    let made : ℕ = c.in_ok-scan.scan.steps in
    let visits = map seen_visit c.in_ok-trace.trace.visits.items in
    let is : IsFound keys times cells made visits =
    is_found keys times c.in_ok-scan.scan visits c.in_ok-scan.ensures.keys c.in_ok-scan.ensures.times
    c.in_ok-scan.ensures.done c.in_ok-trace.ensures.walk c.in_ok-trace.ensures.longest in
    let g = setting_of keys.accepted.now times in
    subst (λ (one : Cells). Backs one visits) (sym c.into_found.ensures.cells)
    (record {
      in_time = subst (AreInTime 0 visits) (sym (bound keys times cells made visits is))
          (walk_in_time g (start_angle g.start) (cells.last.clock - start_angle g.start) visits is.walk);
      after = last_after g (in_order keys.accepted.now) cells is.are is.scanned;
      on_drum = omega (arith, is.are.angle);
      below = omega (arith, is.are.angle, is.scanned.last_near, c.requires.keys.ordered.0.few);
      few = omega (
        arith,
        c.requires.keys.ordered.0.few,
        short_walk g (in_order keys.accepted.now) c.requires.keys.ordered.0 (start_angle g.start) is.walk.hops is.walk.walk,
        length-map is.walk.hops visited,
        ap length is.walk.same,
      );
    })

pub returns-clause-is : goal.returns-clause-is
returns-clause-is v c =
    let keys = c.args.keys.now in
    let times = c.args.times.now in
    let cells = c.in_ok-scan.scan.cells in
    let made : ℕ = c.in_ok-scan.scan.steps in
    let visits = map seen_visit c.in_ok-trace.trace.visits.items in
    let g = setting_of keys.accepted.now times in
    let order = in_order keys.accepted.now in
    let is : IsFound keys times cells made visits =
    is_found keys times c.in_ok-scan.scan visits c.in_ok-scan.ensures.keys c.in_ok-scan.ensures.times
    c.in_ok-scan.ensures.done c.in_ok-trace.ensures.walk c.in_ok-trace.ensures.longest in
    let analysis : Analysis = c.in_ok-counted.counted.analysis in
    let own : ArePasses g.notes.marks visits c.in_ok-trace.trace.passed =
    subst (λ (one : Keys). ArePasses (marks_in one) visits c.in_ok-trace.trace.passed) c.in_ok-scan.ensures.keys
    c.in_ok-trace.ensures.passed in
    let walked : map seen_visit analysis.walk.items ≡ visits =
    ap (λ (walk : Vec Visit Global). map seen_visit walk.items) c.in_ok-counted.ensures.walk in
    is_analysis g order cells made analysis
    (subst (λ (one : Cells). IsOfCells one made analysis) c.into_found.ensures.cells
    (subst (λ (n : ℕ). IsOfCells c.into_found.result.cells n analysis) c.into_found.ensures.steps
    c.in_ok-counted.ensures.cells)) c.requires.keys.ordered.0
    (deck_of keys.accepted.now.flow).on_drum is.are is.scanned is.turns
    (subst (IsWalkOf g (start_angle g.start) (cells.last.clock - start_angle g.start)) (sym walked) is.walk)
    (subst (AreLongest g (start_angle g.start)) (sym walked) is.longest)
    (subst (λ (all : List Visited). ArePasses g.notes.marks all analysis.passed) (sym walked)
    (subst (λ (all : List ℕ). ArePasses g.notes.marks visits all) (sym c.in_ok-counted.ensures.passed) own))
