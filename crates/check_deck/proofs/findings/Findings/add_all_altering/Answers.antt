use Rattle.std.proofs.Common.{◌≡◌, ◌++◌, List, ℕ, flat_map, ap, ◌∙◌, Some}
use Rattle.std.specs.Prelude.{slice_get}
use Rattle.read_decks.specs.InDeck.{loads_in}
use Rattle.flow_graph.specs.Flow.{executed_in}
use Rattle.flow_graph.proofs.Founds.{number_at}
use Rattle.flow_acceptance.proofs.Alterations.{all_taken}
use Rattle.check_findings.specs.FoundAt.{altering}
use Rattle.check_findings.proofs.Adding.{added_some}
use Rattle.check_deck.specs.FindingsOf.{found_in}
use Rattle.check_deck.proofs.findings.Findings.add_all_altering.Goals as goal

pub loop-location-preserved : goal.loop-location-preserved
loop-location-preserved c =
    let flow = c.args.flow.now in
    let k = c.loop-location.location-index in
    let location = c.location-item.result in
    let here : slice_get (executed_in flow) k ≡ Some location.number =
    number_at c.executed-location-items.result.now (executed_in flow) k location c.executed-location-items.ensures.all
    c.loop-location-test.true c.location-item.is in
    added_some (altering (loads_in flow.deck.now) flow.notes.now (executed_in flow)) (found_in c.args.self.now)
    (found_in c.loop-location.self) (found_in c.add_altering.new.self) (executed_in flow) k location.number here
    c.loop-location.invariant c.in_ok-add_altering.ensures

pub returns : goal.returns
returns c =
    let flow = c.args.flow.now in
    c.loop-location.invariant ∙ ap (λ (places : List ℕ). found_in c.args.self.now
    ++ flat_map (altering (loads_in flow.deck.now) flow.notes.now (executed_in flow)) places)
    (all_taken c.executed-location-items.result.now (executed_in flow) c.loop-location.location-index
    c.executed-location-items.ensures.all c.loop-location-test.false)
