use Rattle.std.proofs.Common.{List, [], subst}
use Rattle.print_graphs.specs.GraphOf.{loops_in, nodes_in, start_of}
use Rattle.print_graphs.specs.GraphText.{graph_text}
use Rattle.print_lines.specs.declared.status.Status.TheVariants.{Done}
use Rattle.print_lines.specs.Output.{GetsResult}
use Rattle.base_notes.specs.declared.notes.mark.Mark.{Mark}
use Rattle.program_answers.proofs.telling.tell_graph.Goals as goal

pub returns : goal.returns
returns g c =
    let graph = c.args.graph.now in
    subst (λ (marks : List Mark). GetsResult (g.O.Output.device c.args.out.now) (g.O.Output.device c.end_result.new.out)
    (graph_text marks (loops_in graph) (start_of graph) (nodes_in graph)) Done c.end_result.result) c.marks.ensures.all
    (c.end_result.ensures _ _ (c.put_graph.ensures.stands _ [] (c.new-sheet.ensures _)))
