-- Of free_rows: each row so far is that of its node, and a row that is added keeps it so.
use Rattle.std.proofs.Common.{ℕ, ◌+◌, List, length, sym, ap, ◌∙◌, subst, arith}
use Rattle.std.specs.Prelude.{Vec}
use Rattle.std.specs.declared.alloc.Global.{Global}
use Rattle.std.proofs.lemmas.List.{length_push}
use Rattle.std.proofs.lemmas.Option.{slice_get_within}
use Rattle.read_decks.specs.InDeck.{loads_in}
use Rattle.base_graphs.specs.Rows.{targets_in}
use Rattle.flow_graph.specs.Flow.{deck_of, nodes_of, notes_of}
use Rattle.flow_acceptance.specs.Free.{IsFreeRow}
use Rattle.flow_acceptance.proofs.FreeRows.{rows_more}
use Rattle.flow_acceptance.proofs.free.free_rows.Goals as goal

pub loop-node-preserved : goal.loop-node-preserved
loop-node-preserved c =
    let flow = c.args.flow.now in
    let nodes = nodes_of flow in
    let rows = c.loop-node.rows.items in
    let row = c.in_ok-row.row in
    let pushed = c.in_ok-push.ensures.items in
    record {
      long =
          ap (λ (all : List (Vec ℕ Global)). length all) pushed ∙ length_push rows row
          ∙ ap (λ (n : ℕ). n + 1) c.loop-node.invariant.long;
      rows =
          λ index other lt at. subst
          (λ (all : List (Vec ℕ Global)). IsFreeRow (loads_in (deck_of flow)) (notes_of flow) nodes other
          (targets_in all index)) (sym pushed)
          (rows_more (loads_in (deck_of flow)) (notes_of flow) nodes rows row c.loop-node.node c.in_ok-row.ensures.0
          c.loop-node.invariant.long c.loop-node.invariant.rows c.in_ok-row.ensures.1 c.in_ok-row.ensures.2 index
          other lt at);
    }

pub returns-clause-rows : goal.returns-clause-rows
returns-clause-rows c index from at =
    c.loop-node.invariant.rows index from
    (omega (
      arith,
      slice_get_within (nodes_of c.args.flow.now) index from at,
      c.loop-node-test.false,
      c.size-node-end.ensures,
    )) at
