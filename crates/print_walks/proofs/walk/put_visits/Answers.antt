use Rattle.std.proofs.Common.{List, ℕ, flat_map, ap, arith}
use Rattle.std.proofs.lemmas.List.{take_all}
use Rattle.base_notes.specs.Entries.{entry_in}
use Rattle.flow_walks.specs.declared.visit.Visit.{Visit}
use Rattle.flow_walks.specs.Visited.{seen_visit}
use Rattle.print_lines.proofs.Passing.{passes_as, passes_more}
use Rattle.print_hops.specs.WalkText.{visit_line}
use Rattle.print_walks.proofs.walk.put_visits.Goals as goal

pub loop-visit-preserved : goal.loop-visit-preserved
loop-visit-preserved g c =
    passes_more (λ (visit : Visit). visit_line (entry_in c.args.times.now) c.args.angle (seen_visit visit))
    c.args.walk.now c.loop-visit.visit-index c.visit-item.result c.loop-visit-test.true c.visit-item.is
    c.loop-visit.invariant c.put.ensures

pub returns : goal.returns
returns g c =
    let line : Visit → List ℕ = λ visit. visit_line (entry_in c.args.times.now) c.args.angle (seen_visit visit) in
    passes_as (ap (flat_map line) (take_all c.loop-visit.visit-index c.args.walk.now (omega (arith, c.loop-visit-test.false))))
    c.loop-visit.invariant
