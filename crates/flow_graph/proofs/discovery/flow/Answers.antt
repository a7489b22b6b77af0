use Rattle.std.proofs.Common.{◌≡◌, ◌<◌, List, take, length, sym, ap, ◌∙◌, subst}
use Rattle.std.proofs.lemmas.List.{take_all}
use Rattle.read_decks.specs.InDeck.{loads_in, start_in}
use Rattle.flow_graph.specs.Discovered.{IsDiscovered}
use Rattle.flow_graph.specs.Executed.{each_place}
use Rattle.flow_graph.specs.Found.{places_of}
use Rattle.flow_graph.specs.InNodes.{nodes_in}
use Rattle.flow_graph.specs.Hops.{Node}
use Rattle.flow_graph.proofs.Orders.{all_found, many_met}
use Rattle.flow_graph.proofs.discovery.flow.Goals as goal

pub returns-in_ok-executed-in-Whole-clause-executed : goal.returns-in_ok-executed-in-Whole-clause-executed
returns-in_ok-executed-in-Whole-clause-executed c =
    let loads = loads_in c.args.deck.now in
    let notes = c.args.notes.now in
    let start = start_in c.args.deck.now in
    let nodes = nodes_in notes.calls c.in-Whole.nodes in
    let whole = subst (IsDiscovered loads notes start) c.in-Whole.is c.in_ok-nodes.ensures in
    let places = places_of c.in_ok-executed-in-Whole.executed in
    let same : each_place nodes ≡ places =
    sym (c.in_ok-executed-in-Whole.ensures.places ∙ ap each_place (take_all 65536 nodes whole.2)) in
    record {
      found = all_found loads notes start nodes whole.0 places same;
      good = c.in_ok-executed-in-Whole.ensures.good;
    }

pub returns-in_ok-good_locations-in-TooMany-clause-refused :
    goal.returns-in_ok-good_locations-in-TooMany-clause-refused
returns-in_ok-good_locations-in-TooMany-clause-refused c =
    let loads = loads_in c.args.deck.now in
    let notes = c.args.notes.now in
    let start = start_in c.args.deck.now in
    let many = subst (IsDiscovered loads notes start) c.in-TooMany.is c.in_ok-nodes.ensures in
    let executed = c.in_ok-good_locations-in-TooMany in
    many_met loads notes start many.0.0 (places_of executed.field-0)
    (ap (λ (ns : List Node). each_place (take 65536 ns)) many.0.1 ∙ sym executed.ensures.places) executed.ensures.good
    (subst (λ (ns : List Node). 65536 < length ns) (sym many.0.1) many.1)
