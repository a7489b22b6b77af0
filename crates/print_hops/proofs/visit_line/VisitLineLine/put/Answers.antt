use Rattle.std.proofs.Common.{ap, ◌∙◌}
use Rattle.base_notes.specs.Entries.{entry_in}
use Rattle.print_lines.proofs.Passing.{◌⊳◌, passes_as}
use Rattle.print_hops.specs.TimedHop.{seen_timed}
use Rattle.print_hops.specs.WalkText.{visit_line}
use Rattle.print_hops.proofs.Lines.{visit_told}
use Rattle.print_hops.proofs.visit_line.VisitLineLine.put.Goals as goal

pub returns : goal.returns
returns g c =
    let times = entry_in c.args.self.now.times.now in
    let angle = c.args.self.now.angle in
    passes_as
    (visit_told times angle (seen_timed c.of-told.result) c.of-moments.result c.of-moments.ensures
    ∙ ap (visit_line times angle) c.of-told.ensures.same)
    (c.put_hop.ensures ⊳ c.put_times.ensures)
