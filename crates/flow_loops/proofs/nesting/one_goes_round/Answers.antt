-- Of one_goes_round: links go round from none of the nodes so far; one from which they do ends it.
use Rattle.std.proofs.Common.{◌≡◌, true, false, subst, sym, ◌∙◌, inl, inr, arith}
use Rattle.std.proofs.lemmas.Bool.{cases_lt}
use Rattle.base_notes.specs.EdgeOf.{edge_of}
use Rattle.base_graphs.specs.Graph.{row}
use Rattle.flow_loops.specs.Closing.{places_in}
use Rattle.flow_loops.specs.Reached.{IsAt, LeadsAbout}
use Rattle.flow_loops.proofs.nesting.one_goes_round.Goals as goal

pub loop-node-preserved : goal.loop-node-preserved
loop-node-preserved c one = elim (cases_lt one.0 c.loop-node.node) [
  | inl earlier ↦ c.loop-node.invariant (one.0, earlier, one.2, one.3)
  | inr last ↦ (let same : one.0 ≡ c.loop-node.node = omega (arith, last, one.1) in
      let places = places_in c.args.flow.now in
      let clash : true ≡ false =
      sym (c.in_ok-goes_round_there.ensures.1 (
        subst (IsAt places c.args.inner.onto.number) same one.2,
        subst (LeadsAbout (row c.args.graph.now) places (edge_of c.args.outer) (edge_of c.args.inner)) same one.3,
      )) ∙ c.if-branch.false in
      cc)
]
