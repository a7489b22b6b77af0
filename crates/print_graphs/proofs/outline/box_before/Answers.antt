use Rattle.std.proofs.Common.{◌≡◌, ◌<◌, false, Some, ap, sym, ◌∙◌, arith}
use Rattle.std.proofs.lemmas.Option.{slice_get-get_or, slice_get_within}
use Rattle.print_graphs.specs.declared.node.Node.{Node}
use Rattle.print_graphs.specs.GraphOf.{edges_in, node_of}
use Rattle.print_graphs.specs.Outline.{goes_straight}
use Rattle.print_graphs.proofs.Outlines.{so_far}
use Rattle.print_graphs.proofs.outline.box_before.Goals as goal

pub returns-then-goes_straight-clause-found : goal.returns-then-goes_straight-clause-found
returns-then-goes_straight-clause-found c =
    let boxes = c.args.boxes.now in
    let index = c.loop-index.index in
    let one = c.index-boxes-index.result in (
      one,
      slice_get-get_or boxes index one c.loop-index-test.true
          ∙ ap (λ (node : Node). Some node) (sym c.index-boxes-index.is),
      sym c.goes_straight.ensures ∙ c.if-goes_straight.true,
    )

pub loop-index-preserved : goal.loop-index-preserved
loop-index-preserved c =
    so_far c.args.boxes.now
    (λ one. goes_straight c.args.marks.now (edges_in c.args.loops.now) c.args.onto.number (node_of one) ≡ false)
    c.loop-index.index c.index-boxes-index.result c.loop-index.invariant c.loop-index-test.true c.index-boxes-index.is
    (sym c.goes_straight.ensures ∙ c.if-goes_straight.false)

pub returns-clause-none : goal.returns-clause-none
returns-clause-none c k one at =
    let inside : k < c.loop-index.index = omega
    (arith, slice_get_within c.args.boxes.now k one at, c.loop-index-test.false) in
    c.loop-index.invariant k one inside at
