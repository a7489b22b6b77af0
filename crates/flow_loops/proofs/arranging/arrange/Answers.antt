use Rattle.std.proofs.Common.{sym, subst, arith}
use Rattle.base_graphs.specs.Graph.{row, size}
use Rattle.flow_loops.specs.Arranged.{IsArranged}
use Rattle.flow_loops.proofs.Arrangements.{all_arranged}
use Rattle.flow_loops.proofs.arranging.arrange.Goals as goal

pub returns : goal.returns
returns c =
    let search = c.loop-root.search in
    let kept = c.loop-root.invariant in
    subst (IsArranged (row c.args.graph.now) (size c.args.graph.now)) (sym c.into_order.ensures)
    (all_arranged (row c.args.graph.now) (size c.args.graph.now) search.met.items search.passed.items
    search.path.items search.finished.items kept.sound kept.empty
    (λ node within. kept.met node (omega (arith, within, c.loop-root-test.false, c.size-root-end.ensures))))
