use Rattle.std.proofs.Common.{◌≡◌, ℕ, List, Some, Contains, sym, subst, inl, inr}
use Rattle.std.specs.Prelude.{slice_get}
use Rattle.read_decks.specs.InDeck.{loads_in, start_in}
use Rattle.flow_graph.proofs.Founds.{number_at}
use Rattle.flow_graph.specs.Flow.{deck_of, executed_in, notes_of}
use Rattle.flow_acceptance.specs.Altering.{AltersNone}
use Rattle.flow_acceptance.proofs.Alterations.{altered_first, taken_cases, all_taken}
use Rattle.flow_acceptance.proofs.altering.check_unaltered.Goals as goal

pub returns-in-Some-clause-altered : goal.returns-in-Some-clause-altered
returns-in-Some-clause-altered c =
    let flow = c.args.flow.now in
    let k = c.loop-writer.writer-index in
    let writer = c.writer-item.result in
    let here : slice_get (executed_in flow) k ≡ Some writer.number =
    number_at c.executed-writer-items.result.now (executed_in flow) k writer c.executed-writer-items.ensures.all
    c.loop-writer-test.true c.writer-item.is in
    altered_first (loads_in (deck_of flow)) (notes_of flow) (start_in (deck_of flow)) (executed_in flow) k writer.number
    c.in-Some.word.number c.requires.flow here c.loop-writer.invariant c.in-Some.ensures.some

pub loop-writer-preserved : goal.loop-writer-preserved
loop-writer-preserved c place there =
    let flow = c.args.flow.now in
    let k = c.loop-writer.writer-index in
    let writer = c.writer-item.result in
    let here : slice_get (executed_in flow) k ≡ Some writer.number =
    number_at c.executed-writer-items.result.now (executed_in flow) k writer c.executed-writer-items.ensures.all
    c.loop-writer-test.true c.writer-item.is in
    elim (taken_cases (executed_in flow) k writer.number place here there) [
      | inl before ↦ c.loop-writer.invariant place before
      | inr same ↦ subst (AltersNone (loads_in (deck_of flow)) (notes_of flow) (start_in (deck_of flow))) same
          c.in_default.ensures.none
    ]

pub returns-clause-unaltered : goal.returns-clause-unaltered
returns-clause-unaltered c place there =
    let flow = c.args.flow.now in
    let all =
    all_taken c.executed-writer-items.result.now (executed_in flow) c.loop-writer.writer-index
    c.executed-writer-items.ensures.all c.loop-writer-test.false in
    c.loop-writer.invariant place (subst (λ (places : List ℕ). Contains places place) (sym all) there)
