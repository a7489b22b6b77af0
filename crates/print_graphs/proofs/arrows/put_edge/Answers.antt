use Rattle.std.proofs.Common.{ℕ, ap, ◌∙◌}
use Rattle.base_notes.specs.Marks.{mark_on}
use Rattle.print_graphs.specs.GraphOf.{edges_in}
use Rattle.print_graphs.specs.GraphText.{end_text, is_loop, mark_label}
use Rattle.print_lines.proofs.Passing.{◌⊳◌, passes_as}
use Rattle.print_graphs.proofs.arrows.put_edge.Goals as goal

pub returns : goal.returns
returns g c =
    let marks = c.args.marks.now in
    let onto = c.args.onto.number in
    c.put_arrow.ensures
    ⊳ passes_as (ap (λ (last : ℕ). mark_label marks (mark_on marks last onto)) c.last-last.ensures) c.put_mark_on.ensures
    ⊳ passes_as (ap end_text c.have-closes.ensures
    ∙ ap (λ (last : ℕ). end_text (is_loop (edges_in c.args.loops.now) last onto)) c.last-last.ensures) c.put_end.ensures
