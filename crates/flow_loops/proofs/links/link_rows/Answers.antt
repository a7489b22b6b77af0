-- Of link_rows: each row so far is that of its node, and a row that is added keeps it so.
use Rattle.std.proofs.Common.{◌≡◌, ℕ, ◌+◌, List, length, Some, sym, ap, ◌∙◌, subst, arith}
use Rattle.std.specs.Prelude.{slice_get, Vec}
use Rattle.std.specs.declared.alloc.Global.{Global}
use Rattle.std.proofs.lemmas.List.{length_push}
use Rattle.std.proofs.lemmas.Option.{same_Some, slice_get_within}
use Rattle.read_decks.specs.InDeck.{loads_in}
use Rattle.base_graphs.specs.Rows.{targets_in}
use Rattle.flow_graph.specs.Flow.{nodes_of}
use Rattle.flow_graph.specs.Hops.{Node}
use Rattle.flow_loops.specs.Links.{IsLinkRow}
use Rattle.flow_loops.proofs.Besides.{rows_pushed}
use Rattle.flow_loops.proofs.links.link_rows.Goals as goal

pub loop-node-preserved : goal.loop-node-preserved
loop-node-preserved c =
    let flow = c.args.flow.now in
    let loads = loads_in flow.deck.now in
    let nodes = nodes_of flow in
    let rows = c.loop-node.rows.items in
    let row = c.in_ok-row.row in
    let own = c.in_ok-row.ensures in
    let pushed = c.in_ok-push.ensures.items in
    let Says : ℕ → List ℕ → Type 0 = λ node targets. (from : Node) → slice_get nodes node ≡ Some from
    → IsLinkRow loads flow.notes.now nodes from targets in
    let last : Says c.loop-node.node row.items = λ from at.
    subst (λ (n : Node). IsLinkRow loads flow.notes.now nodes n row.items) (same_Some own.0 from (sym own.1 ∙ at)) own.2 in
    record {
      long =
          ap (λ (all : List (Vec ℕ Global)). length all) pushed ∙ length_push rows row
          ∙ ap (λ (n : ℕ). n + 1) c.loop-node.invariant.long;
      rows = λ node below.
          subst (λ (all : List (Vec ℕ Global)). Says node (targets_in all node)) (sym pushed)
          (rows_pushed Says rows row c.loop-node.node c.loop-node.invariant.long c.loop-node.invariant.rows last node below);
    }

pub returns-clause-rows : goal.returns-clause-rows
returns-clause-rows c index from at =
    c.loop-node.invariant.rows index
    (omega (
      arith,
      slice_get_within (nodes_of c.args.flow.now) index from at,
      c.loop-node-test.false,
      c.size-node-end.ensures,
    )) from at
