use Rattle.std.proofs.Common.{flat_map}
use Rattle.read_decks.specs.InDeck.{loads_in}
use Rattle.flow_graph.specs.Accepted.{product_of}
use Rattle.flow_graph.specs.Flow.{executed_in}
use Rattle.check_findings.specs.FoundAt.{altering, too_many, unfit}
use Rattle.check_findings.proofs.Whole.{three_in_turn}
use Rattle.check_deck.specs.FindingsOf.{found_in}
use Rattle.check_deck.proofs.findings.Findings.add_of_locations.Goals as goal

pub returns : goal.returns
returns c =
    let flow = c.args.flow.now in
    let loads = loads_in flow.deck.now in
    let notes = flow.notes.now in
    let executed = executed_in flow in
    three_in_turn (found_in c.args.self.now) (found_in c.add_all_unfit.new.self) (found_in c.add_all_altering.new.self)
    (found_in c.add_size.new.self) (flat_map (unfit loads notes) executed) (flat_map (altering loads notes executed) executed)
    (too_many notes (product_of executed notes.marks)) c.in_ok-add_all_unfit.ensures c.in_ok-add_all_altering.ensures
    c.in_ok-add_size.ensures
