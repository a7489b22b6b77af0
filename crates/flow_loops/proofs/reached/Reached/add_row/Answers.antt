-- Of add_row: those of the nodes so far were added that stand elsewhere. One more is added so too.
use Rattle.std.proofs.Common.{◌≡◌, ℕ, Bool, true, false, List, ◌∷◌, ◌++◌, cond, slice_index_or, take, []}
use Rattle.std.proofs.Common.{ap, sym, ◌∙◌, subst, arith}
use Rattle.std.specs.Prelude.{filter}
use Rattle.std.proofs.lemmas.List.{append-nil}
use Rattle.std.proofs.lemmas.List.Elements.{Contains-get_or, filter_more}
use Rattle.flow_graph.specs.Executed.{with_new}
use Rattle.flow_graph.proofs.Additions.{with_new_append}
use Rattle.flow_loops.specs.Closing.{places_in}
use Rattle.flow_loops.specs.Reached.{is_elsewhere, nodes_in, AreMet}
use Rattle.flow_loops.proofs.Reachings.{told_other, told_same}
use Rattle.flow_loops.proofs.Suches.{place_told}
use Rattle.flow_loops.proofs.reached.Reached.add_row.Goals as goal

pub location-requires : goal.location-requires
location-requires c =
    c.requires.within (slice_index_or c.args.row.now c.loop-node.node-index 0)
    (Contains-get_or c.args.row.now c.loop-node.node-index 0 c.loop-node-test.true)

pub add-requires-clause-within : goal.add-requires-clause-within
add-requires-clause-within c =
    omega (
      arith,
      c.requires.within (slice_index_or c.args.row.now c.loop-node.node-index 0)
          (Contains-get_or c.args.row.now c.loop-node.node-index 0 c.loop-node-test.true),
      c.size.ensures,
    )

pub loop-node-preserved-then-number : goal.loop-node-preserved-then-number
loop-node-preserved-then-number c =
    let flow = c.args.flow.now in
    let row = c.args.row.now in
    let k = c.loop-node.node-index in
    let node = slice_index_or row k 0 in
    let p : ℕ → Bool = is_elsewhere (places_in flow) c.args.avoided.number in
    let here : p node ≡ false =
    told_same _ c.args.avoided.number
    (place_told flow node c.location.result.number c.location.ensures ∙ sym c.number.ensures ∙ c.if-number.true
    ∙ c.number-in-loop-node.ensures) in
    record {
      met = c.loop-node.invariant.met;
      added =
          c.loop-node.invariant.added
          ∙ ap (with_new (nodes_in c.args.self.now))
          (sym (filter_more p row k 0 c.loop-node-test.true
          ∙ ap (λ (b : Bool). filter p (take k row) ++ cond b (node ∷ []) []) here ∙ append-nil (filter p (take k row))));
    }

pub loop-node-preserved : goal.loop-node-preserved
loop-node-preserved c =
    let flow = c.args.flow.now in
    let row = c.args.row.now in
    let k = c.loop-node.node-index in
    let node = slice_index_or row k 0 in
    let before = nodes_in c.args.self.now in
    let p : ℕ → Bool = is_elsewhere (places_in flow) c.args.avoided.number in
    let here : p node ≡ true =
    told_other _ c.args.avoided.number
    (λ same. c.if-number.false
    (c.number.ensures ∙ sym (place_told flow node c.location.result.number c.location.ensures) ∙ same
    ∙ sym c.number-in-loop-node.ensures)) in
    record {
      met = subst (λ (n : ℕ). AreMet n c.add.new.self) c.size.ensures c.in_ok-add.ensures.met;
      added =
          c.in_ok-add.ensures.added
          ∙ ap (λ (nodes : List ℕ). with_new nodes (node ∷ [])) c.loop-node.invariant.added
          ∙ sym (with_new_append before (filter p (take k row)) (node ∷ []))
          ∙ ap (with_new before)
          (sym (filter_more p row k 0 c.loop-node-test.true
          ∙ ap (λ (b : Bool). filter p (take k row) ++ cond b (node ∷ []) []) here));
    }
