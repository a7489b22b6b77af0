use Rattle.std.proofs.Common.{◌≡◌, ℕ, List, flat_map, map, ap, ◌∙◌}
use Rattle.base_words.specs.declared.op.Op.{Op}
use Rattle.base_notes.specs.declared.entry.Entry.{Entry}
use Rattle.base_notes.specs.Entries.{entry_in}
use Rattle.flow_walks.specs.declared.visit.Visit.{Visit}
use Rattle.flow_walks.specs.Visited.{seen_visit}
use Rattle.bound_scan.specs.declared.analysis.Analysis.{Analysis}
use Rattle.bound_scan.specs.AnalysisOf.{angle_of, visits_of}
use Rattle.print_lines.specs.BoundText.{bound_text}
use Rattle.print_lines.proofs.Passing.{◌⊳◌, passes_as}
use Rattle.print_hops.specs.WalkText.{visit_line}
use Rattle.print_hops.proofs.Lines.{flat_map_map}
use Rattle.print_walks.proofs.walk.put_walk.Goals as goal

-- the lines that were put are those of the analysis's hops
lines_told : (times : Op → Entry) (angle : ℕ) (analysis : Analysis) (walk : List Visit) → angle ≡ angle_of analysis
    → map seen_visit walk ≡ visits_of analysis
    → flat_map (λ (visit : Visit). visit_line times angle (seen_visit visit)) walk
    ≡ flat_map (visit_line times (angle_of analysis)) (visits_of analysis)
lines_told times angle analysis walk at told =
    flat_map_map (visit_line times angle) seen_visit walk ∙ ap (flat_map (visit_line times angle)) told
    ∙ ap (λ (a : ℕ). flat_map (visit_line times a) (visits_of analysis)) at

pub returns : goal.returns
returns g c =
    passes_as
    (lines_told (entry_in c.args.times.now) c.angle.result c.args.analysis.now c.walk.result.now c.angle.ensures
    c.walk.ensures.told) c.put_visits.ensures
    ⊳ passes_as (ap bound_text c.bound.ensures.told) c.put_bound.ensures
