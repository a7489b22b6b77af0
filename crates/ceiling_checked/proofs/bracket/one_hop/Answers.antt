-- Of one_hop: the start is executed, so that the flow has its hops.
use Rattle.std.proofs.Common.{◌≡◌, ◌∙◌, refl, sym, ap, subst}
use Rattle.std.specs.Prelude.{Contains}
use Rattle.std.proofs.lemmas.Result.{IfOk-weaker}
use Rattle.read_decks.specs.InDeck.{loads_in, start_in}
use Rattle.machine_steps.specs.Calls.{none_open}
use Rattle.flow_graph.specs.declared.flow_graph.Flow.{Flow}
use Rattle.flow_graph.specs.Flow.{deck_of, executed_in, notes_of}
use Rattle.flow_graph.specs.Hops.{hops}
use Rattle.flow_graph.specs.HopsLeft.{hops_left}
use Rattle.flow_graph.specs.SettingOf.{setting}
use Rattle.flow_graph.proofs.Orders.{first_reached}
use Rattle.flow_acceptance.proofs.Acceptances.{moved}
use Rattle.ceiling_rounds.specs.InRounds.{total_of}
use Rattle.ceiling_rounds.specs.OneHop.{NoWalkOfOneHopTakesLonger}
use Rattle.ceiling_checked.proofs.bracket.one_hop.Goals as goal

pub longest_of_one_hop-requires : goal.longest_of_one_hop-requires
longest_of_one_hop-requires c =
    let flow = c.args.accepted.now.flow in
    let own = c.flow-flow.result.now in
    let deck = c.deck-deck.result.now in
    let notes = c.notes-notes.result.now in
    let loads = loads_in (deck_of flow) in
    let start = start_in (deck_of flow) in
    let is : own ≡ flow = c.flow-flow.ensures in
    let deck_is : deck ≡ deck_of own = c.deck-deck.ensures in
    let notes_is : notes ≡ notes_of own = c.notes-notes.ensures in
    let here : c.start.result.number ≡ start_in (deck_of own) = c.start.ensures.held ∙ ap start_in deck_is in
    let there : Contains (executed_in own) (start_in (deck_of own)) =
    subst (λ (f : Flow). Contains (executed_in f) (start_in (deck_of f))) (sym is)
    (c.requires.found.all start (none_open (notes_of flow).calls, first_reached loads (notes_of flow) start)) in
    let all : hops_left c.hops-hops.result ≡ hops (loads_in (deck_of own)) (notes_of own) c.start.result.number =
    c.hops-hops.ensures.executed (subst (Contains (executed_in own)) (sym here) there) in
    all ∙ ap (hops (loads_in (deck_of own)) (notes_of own)) here
    ∙ moved (λ d n. hops (loads_in (deck_of own)) (notes_of own) (start_in (deck_of own))
    ≡ hops (loads_in d) n (start_in d)) (deck_of own) deck (notes_of own) notes (sym deck_is) (sym notes_is) refl

pub returns-clause-longest : goal.returns-clause-longest
returns-clause-longest c =
    let flow = c.args.accepted.now.flow in
    let times = c.args.times.now in
    IfOk-weaker c.longest_of_one_hop.result
    (λ walk. NoWalkOfOneHopTakesLonger (setting c.deck-deck.result.now times c.notes-notes.result.now) (total_of walk))
    (λ walk. NoWalkOfOneHopTakesLonger (setting (deck_of flow) times (notes_of flow)) (total_of walk)) (λ walk is.
    moved (λ d n. NoWalkOfOneHopTakesLonger (setting d times n) (total_of walk)) c.deck-deck.result.now (deck_of flow)
    c.notes-notes.result.now (notes_of flow) (c.deck-deck.ensures ∙ ap deck_of c.flow-flow.ensures)
    (c.notes-notes.ensures ∙ ap notes_of c.flow-flow.ensures) is)
    c.longest_of_one_hop.ensures.longest
