use Rattle.std.proofs.Common.{◌≡◌, ◌+◌, List, ℕ, sym, subst, ◌∙◌}
use Rattle.flow_graph.specs.Flow.{nodes_of}
use Rattle.print_graphs.specs.GraphOf.{AreAt}
use Rattle.print_graphs.proofs.Taken.{more_at}
use Rattle.print_graphs.proofs.onward.nodes_at.Goals as goal

pub loop-node-preserved : goal.loop-node-preserved
loop-node-preserved c =
    let nodes = nodes_of c.args.flow.now in
    let k = c.loop-node.node in
    let node = c.location.ensures in
    let there : node.0.place ≡ c.args.location.number =
    sym node.2 ∙ sym c.number.ensures ∙ c.if-number.false ∙ c.number-in-loop-node.ensures in
    subst (λ (indices : List ℕ). AreAt nodes (k + 1) c.args.location.number indices) (sym c.in_ok-push.ensures.items)
    (more_at nodes c.args.location.number k c.loop-node.nodes.items c.loop-node.invariant node.0 node.1 there)
