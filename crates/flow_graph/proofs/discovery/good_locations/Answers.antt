use Rattle.std.proofs.Common.{List, ℕ, take, sym, ap, ◌∙◌, subst}
use Rattle.base_devices.proofs.Handed.{handed}
use Rattle.read_decks.specs.InDeck.{loads_in, start_in}
use Rattle.base_notes.specs.declared.notes.call.Call.{Call}
use Rattle.flow_graph.specs.InNodes.{nodes_in}
use Rattle.flow_graph.specs.Executed.{each_place}
use Rattle.flow_graph.specs.Hops.{Node}
use Rattle.flow_graph.specs.Refused.{IsFirstWrong}
use Rattle.flow_graph.proofs.Orders.{wrong_met}
use Rattle.flow_graph.proofs.discovery.good_locations.Goals as goal

pub returns-in_err-check_places-clause-refused : goal.returns-in_err-check_places-clause-refused
returns-in_err-check_places-clause-refused c =
    let loads = loads_in c.args.deck.now in
    let notes = c.args.notes.now in
    let refusal = c.in_err-check_places.field-0.0 in
    handed c.from_residual-in_err-check_places.result _ refusal c.from_residual-in_err-check_places.ensures.1
    (wrong_met loads notes (start_in c.args.deck.now) c.requires.0 _ refusal
    (ap (λ (ns : List Node). each_place (take 65536 ns)) c.requires.1
    ∙ sym (c.in_ok-executed.ensures
    ∙ ap (λ (calls : List Call). each_place (take 65536 (nodes_in calls c.args.nodes.now))) c.calls.ensures.all))
    (subst (λ (places : List ℕ). IsFirstWrong loads notes places refusal) c.locations-2.ensures.all
    c.in_err-check_places.ensures.refused))
