use Rattle.std.proofs.Common.{refl}
use Rattle.print_graphs.specs.GraphOf.{loops_in, nodes_in}
use Rattle.program_answers.specs.Says.{graph_reply}
use Rattle.print_lines.proofs.NoLine.{no_line}
use Rattle.program_answers.proofs.answering.say_graph.Goals as goal

pub returns-clause-does : goal.returns-clause-does
returns-clause-does g c err =
    let nodes = nodes_in c.in_ok-graph.graph in
    let loops = loops_in c.in_ok-graph.graph in (
      graph_reply c.args.documents.now loops nodes,
      (nodes, c.in_ok-graph.ensures.nodes, loops, c.in_ok-graph.ensures.loops, refl),
      no_line _ _,
      (rw c.in_ok-graph.ensures.start at c.tell_graph.ensures, refl),
    )
