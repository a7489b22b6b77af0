use Rattle.std.proofs.Common.{◌≡◌, ℕ, false, true, Bool, Some, ap, sym, ◌∙◌, inl, inr, arith}
use Rattle.std.specs.Prelude.{slice_get}
use Rattle.std.proofs.lemmas.Bool.{cases_lt}
use Rattle.std.proofs.lemmas.List.{length-map}
use Rattle.std.proofs.lemmas.Option.{same_Some, slice_get-get_or, slice_get_within}
use Rattle.machine_steps.specs.declared.open.Open.{Open}
use Rattle.machine_steps.specs.OpenIn.{open_in}
use Rattle.base_graphs.proofs.Lists.{contains_at}
use Rattle.flow_graph.specs.InNodes.{ways_in}
use Rattle.flow_graph.proofs.InNodesLaws.{ways_at}
use Rattle.flow_graph.proofs.Links.{ways_law}
use Rattle.flow_graph.proofs.openings.index_of.Goals as goal

pub returns-then-is_same-clause-found : goal.returns-then-is_same-clause-found
returns-then-is_same-clause-found c =
    let calls = c.args.calls.now in
    let openings = c.args.openings.now in
    let index = c.loop-index.index in
    let other = c.index-openings-index.result in
    ways_at calls openings index other
    (slice_get-get_or openings index other c.loop-index-test.true ∙ ap Some (sym c.index-openings-index.is))
    ∙ ap Some (sym ((ways_law (open_in c.args.ways.now calls) (open_in other calls)).0
    (sym c.is_same.ensures ∙ c.if-is_same.true)))

pub loop-index-preserved : goal.loop-index-preserved
loop-index-preserved c k below at =
    let calls = c.args.calls.now in
    let openings = c.args.openings.now in
    let index = c.loop-index.index in
    let other = c.index-openings-index.result in
    elim (cases_lt k index) [
      | inl earlier ↦ c.loop-index.invariant k earlier at
      | inr last ↦ (let same : k ≡ index = omega (arith, below, last) in
          let here : slice_get (ways_in calls openings) index ≡ Some (open_in other calls) =
          ways_at calls openings index other
          (slice_get-get_or openings index other c.loop-index-test.true ∙ ap Some (sym c.index-openings-index.is)) in
          let equal : open_in c.args.ways.now calls ≡ open_in other calls =
          same_Some (open_in c.args.ways.now calls) (open_in other calls)
          (sym at ∙ ap (slice_get (ways_in calls openings)) same ∙ here) in
          let clash : ◌≡◌ {A = Bool} true false =
          sym ((ways_law (open_in c.args.ways.now calls) (open_in other calls)).1 equal)
          ∙ sym c.is_same.ensures ∙ c.if-is_same.false in
          cc)
    ]

pub returns-clause-none : goal.returns-clause-none
returns-clause-none c there =
    let calls = c.args.calls.now in
    let openings = c.args.openings.now in
    let ways = open_in c.args.ways.now calls in
    let found : (k : ℕ) × (slice_get (ways_in calls openings) k ≡ Some ways) =
    contains_at (ways_in calls openings) ways there in
    c.loop-index.invariant found.0
    (omega (
      arith,
      slice_get_within (ways_in calls openings) found.0 ways found.1,
      length-map openings (λ (o : Open). open_in o calls),
      c.loop-index-test.false,
    )) found.1
