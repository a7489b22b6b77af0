-- Of Findings::of: the findings are put together in the order of the definition, one kind behind
-- the other. They are of the flow's deck and notes, which are the arguments.
use Rattle.std.proofs.Common.{◌++◌, flat_map, sym}
use Rattle.read_decks.specs.declared.deck.Deck.{Deck}
use Rattle.read_decks.specs.InDeck.{loads_in, start_in}
use Rattle.base_notes.specs.Allowed.{Notes}
use Rattle.flow_graph.specs.Accepted.{product_of}
use Rattle.flow_graph.specs.Executed.{AreAllNodes}
use Rattle.flow_graph.specs.Flow.{executed_in, nodes_of, AreFound}
use Rattle.flow_acceptance.proofs.Acceptances.{moved}
use Rattle.check_findings.specs.FoundAt.{altering, too_many, unfit}
use Rattle.check_findings.proofs.Whole.{in_turn}
use Rattle.check_deck.specs.Findings.{AreFindings}
use Rattle.check_deck.specs.FindingsOf.{found_in}
use Rattle.check_deck.proofs.findings.Findings.of.Goals as goal

pub returns-clause-found : goal.returns-clause-found
returns-clause-found c =
    let flow = c.in_ok-flow.flow in
    let loads = loads_in flow.deck.now in
    let notes = flow.notes.now in
    let executed = executed_in flow in
    let nodes = nodes_of flow in
    let loops = c.in_ok-add_loops.ensures in
    let loose = c.in_ok-add_loose_ends.ensures in
    let all = found_in c.add_loose_ends.new.self in
    let whole : AreFindings loads notes (start_in flow.deck.now) all = record {
      executed = executed;
      found = moved (λ (deck : Deck) (ns : Notes). AreFound (loads_in deck) ns (start_in deck) executed)
          c.args.deck.now flow.deck.now c.args.notes.now notes (sym c.in_ok-flow.ensures.deck)
          (sym c.in_ok-flow.ensures.notes) c.in_ok-flow.ensures.found;
      nodes = nodes;
      reached = moved (λ (deck : Deck) (ns : Notes). AreAllNodes (loads_in deck) ns (start_in deck) nodes)
          c.args.deck.now flow.deck.now c.args.notes.now notes (sym c.in_ok-flow.ensures.deck)
          (sym c.in_ok-flow.ensures.notes) c.in_ok-flow.ensures.nodes;
      few = c.in_ok-flow.ensures.few;
      edges = loops.1;
      closing = loops.2;
      loops = loops.0;
      told = loops.3;
      loose = loose.0;
      are_loose = loose.1;
      all = in_turn (found_in c.none-findings.result) (found_in c.add_of_locations.new.self)
          (found_in c.add_loops.new.self) all
          (flat_map (unfit loads notes) executed ++ flat_map (altering loads notes executed) executed
          ++ too_many notes (product_of executed notes.marks)) loops.0 loose.0
          c.none-findings.ensures c.in_ok-add_of_locations.ensures loops.4 loose.2;
    } in
    moved (λ (deck : Deck) (ns : Notes). AreFindings (loads_in deck) ns (start_in deck) all)
    flow.deck.now c.args.deck.now notes c.args.notes.now c.in_ok-flow.ensures.deck c.in_ok-flow.ensures.notes whole
