use Rattle.std.proofs.Common.{◌<◌, arith}
use Rattle.std.specs.Prelude.{Contains}
use Rattle.base_graphs.specs.Graph.{row, size}
use Rattle.flow_loops.proofs.Besides.{row_none}
use Rattle.flow_loops.proofs.beside.graph_beside.Goals as goal

pub new-requires : goal.new-requires
new-requires c node next there =
    let graph = c.args.graph.now in
    let below : node < size graph =
    omega (arith, row_none c.in_ok-rows.rows.items node next there, c.in_ok-rows.ensures.long) in
    let was : Contains (row graph node) next = (c.in_ok-rows.ensures.rows node below).kept next there in
    omega (arith, graph.within node next was, c.in_ok-rows.ensures.long)
