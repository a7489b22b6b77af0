use Rattle.std.proofs.Common.{List, take, sym, ap, ◌∙◌, subst, arith}
use Rattle.std.proofs.lemmas.List.{length-map, take_all}
use Rattle.read_decks.specs.InDeck.{loads_in, start_in}
use Rattle.base_notes.specs.declared.notes.call.Call.{Call}
use Rattle.flow_graph.specs.Discovered.{IsDiscovered}
use Rattle.flow_graph.specs.Executed.{each_place}
use Rattle.flow_graph.specs.InNodes.{node_of, nodes_in}
use Rattle.flow_graph.proofs.Orders.{all_found}
use Rattle.flow_graph.proofs.discovery.discover.Goals as goal

pub invariant_of-result : goal.invariant_of-result
invariant_of-result c =
    let notes = c.args.notes.now in
    let nodes = c.in-Whole.nodes in
    let whole =
    subst (IsDiscovered (loads_in c.args.deck.now) notes (start_in c.args.deck.now)) c.in-Whole.is c.in_ok-nodes.ensures in
    record {
      held = whole.1;
      few = omega (arith, whole.2, length-map nodes.nodes.keys.items (node_of notes.calls nodes.openings.items));
    }

pub returns-clause-found : goal.returns-clause-found
returns-clause-found c =
    let notes = c.args.notes.now in
    let nodes = nodes_in notes.calls c.in-Whole.nodes in
    let found : IsDiscovered (loads_in c.args.deck.now) notes (start_in c.args.deck.now) c.in_ok-nodes.field-0 =
    c.in_ok-nodes.ensures in
    let whole = subst (IsDiscovered (loads_in c.args.deck.now) notes (start_in c.args.deck.now)) c.in-Whole.is found in
    all_found (loads_in c.args.deck.now) notes (start_in c.args.deck.now) nodes whole.0 _
    (sym (c.in_ok-executed.ensures
    ∙ ap (λ (calls : List Call). each_place (take 65536 (nodes_in calls c.in-Whole.nodes))) c.calls.ensures.all
    ∙ ap each_place (take_all 65536 nodes whole.2)))
