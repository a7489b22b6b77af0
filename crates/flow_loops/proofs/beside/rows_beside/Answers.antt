-- Of rows_beside: each row so far is that of its node, and a row that is added keeps it so.
use Rattle.std.proofs.Common.{ℕ, ◌+◌, List, length, map, sym, ap, ◌∙◌, subst}
use Rattle.std.specs.Prelude.{Vec}
use Rattle.std.specs.declared.alloc.Global.{Global}
use Rattle.std.proofs.lemmas.List.{length_push}
use Rattle.base_notes.specs.EdgeOf.{edge_of}
use Rattle.base_graphs.specs.Graph.{row}
use Rattle.base_graphs.specs.Rows.{targets_in}
use Rattle.flow_loops.specs.Closing.{places_in}
use Rattle.flow_loops.specs.Spared.{IsRowBeside}
use Rattle.flow_loops.proofs.Besides.{rows_pushed}
use Rattle.flow_loops.proofs.beside.rows_beside.Goals as goal

pub loop-node-preserved : goal.loop-node-preserved
loop-node-preserved c =
    let graph = c.args.graph.now in
    let edges = map edge_of c.args.edges.now in
    let places = places_in c.args.flow.now in
    let rows = c.loop-node.rows.items in
    let rest = c.in_ok-rest.rest in
    let pushed = c.in_ok-push.ensures.items in
    record {
      long =
          ap (λ (all : List (Vec ℕ Global)). length all) pushed ∙ length_push rows rest
          ∙ ap (λ (n : ℕ). n + 1) c.loop-node.invariant.long;
      rows = λ node below.
          subst (λ (all : List (Vec ℕ Global)). IsRowBeside places edges node (row graph node) (targets_in all node))
          (sym pushed)
          (rows_pushed (λ node nodes. IsRowBeside places edges node (row graph node) nodes) rows rest c.loop-node.node
          c.loop-node.invariant.long c.loop-node.invariant.rows c.in_ok-rest.ensures node below);
    }
