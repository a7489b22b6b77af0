-- Of one_may_go_on: from none of the nodes so far may a step go so; one from which it may ends it.
use Rattle.std.proofs.Common.{◌≡◌, Some, ap, sym, ◌∙◌, inl, inr, arith}
use Rattle.std.specs.Prelude.{slice_get}
use Rattle.std.proofs.lemmas.Bool.{cases_lt}
use Rattle.std.proofs.lemmas.Option.{slice_get_within}
use Rattle.flow_graph.specs.Flow.{nodes_of}
use Rattle.flow_graph.specs.Taken.{may_go_on}
use Rattle.flow_acceptance.proofs.FreeRows.{some_at}
use Rattle.check_findings.proofs.Steps.{any_at, none_any}
use Rattle.check_findings.proofs.edges.one_may_go_on.Goals as goal

pub loop-node-init : goal.loop-node-init
loop-node-init c k one below at = absurd (omega (arith, below))

pub returns-then-may_go_on : goal.returns-then-may_go_on
returns-then-may_go_on c =
    let flow = c.args.flow.now in
    let node = c.loop-node.node in
    let at = some_at (nodes_of flow) node (omega (arith, c.loop-node-test.true, c.size-node-end.ensures)) in
    sym (any_at (may_go_on flow.notes.now c.args.from.number c.args.onto.number) (nodes_of flow) node at.0 at.1
    (sym (c.may_go_on.ensures at.0 at.1) ∙ c.if-may_go_on.true))

pub loop-node-preserved : goal.loop-node-preserved
loop-node-preserved c k one below at = elim (cases_lt k c.loop-node.node) [
  | inl earlier ↦ c.loop-node.invariant k one earlier at
  | inr last ↦ (let same : k ≡ c.loop-node.node = omega (arith, last, below) in
      let here : slice_get (nodes_of c.args.flow.now) c.loop-node.node ≡ Some one =
      sym (ap (slice_get (nodes_of c.args.flow.now)) same) ∙ at in
      sym (c.may_go_on.ensures one here) ∙ c.if-may_go_on.false)
]

pub returns : goal.returns
returns c =
    let flow = c.args.flow.now in
    sym (none_any (may_go_on flow.notes.now c.args.from.number c.args.onto.number) (nodes_of flow)
    (λ k one at. c.loop-node.invariant k one (omega (
      arith,
      slice_get_within (nodes_of flow) k one at,
      c.loop-node-test.false,
      c.size-node-end.ensures,
    )) at))
