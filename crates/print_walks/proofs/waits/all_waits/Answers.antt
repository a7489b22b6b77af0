use Rattle.std.proofs.Common.{ℕ, map, ap, ◌∙◌}
use Rattle.base_notes.specs.Entries.{entry_in}
use Rattle.flow_walks.specs.Visited.{seen_visit}
use Rattle.bound_scan.specs.AnalysisOf.{angle_of}
use Rattle.print_hops.specs.KindsOf.{waited_of}
use Rattle.print_walks.proofs.waits.all_waits.Goals as goal

pub returns : goal.returns
returns c =
    c.waited.ensures
    ∙ ap (λ (angle : ℕ). waited_of (entry_in c.args.times.now) angle (map seen_visit c.walk.result.now)) c.angle.ensures
    ∙ ap (waited_of (entry_in c.args.times.now) (angle_of c.args.analysis.now)) c.walk.ensures.told
