use Rattle.std.proofs.Common.{sym, subst, arith}
use Rattle.base_graphs.specs.Graph.{row, size, IsTopologicalOrder}
use Rattle.base_graphs.proofs.Searches.{all_ordered}
use Rattle.base_graphs.proofs.sorting.sort.Goals as goal

pub returns : goal.returns
returns c =
    let search = c.loop-root.search in
    let kept = c.loop-root.invariant in
    subst (IsTopologicalOrder (row c.args.graph.now) (size c.args.graph.now)) (sym c.into_order.ensures)
    (all_ordered (row c.args.graph.now) (size c.args.graph.now) search.states.items search.passed.items
    search.path.items search.finished.items kept.sound kept.empty
    (λ node within. kept.met node (omega (arith, within, c.loop-root-test.false, c.size-root-end.ensures))))
