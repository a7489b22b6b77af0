use Rattle.std.proofs.Common.{subst, arith}
use Rattle.read_decks.specs.InDeck.{loads_in}
use Rattle.base_notes.specs.Allowed.{AreSound}
use Rattle.flow_graph.specs.Flow.{deck_of, notes_of}
use Rattle.bound_scan.proofs.FewHops.{few_hops}
use Rattle.print_walks.proofs.size.hops_at.Goals as goal

pub overflow_add-count : goal.overflow_add-count
overflow_add-count c =
    let flow = c.args.flow.now in
    omega (
      arith,
      few_hops (loads_in (deck_of flow)) (notes_of flow) c.args.location.number
          (subst AreSound c.notes.ensures c.marks-marks.ensures.sound),
      c.loop.invariant,
    )

pub returns-clause-few : goal.returns-clause-few
returns-clause-few c =
    let flow = c.args.flow.now in
    omega (
      arith,
      few_hops (loads_in (deck_of flow)) (notes_of flow) c.args.location.number
          (subst AreSound c.notes.ensures c.marks-marks.ensures.sound),
      c.loop.invariant,
    )
