use Rattle.std.proofs.Common.{ℕ, List, ap, ◌∙◌}
use Rattle.read_decks.specs.InDeck.{loads_in}
use Rattle.flow_graph.specs.Executed.{successors, with_new}
use Rattle.flow_graph.specs.Found.{places_of}
use Rattle.flow_graph.specs.Taken.{is_among}
use Rattle.flow_graph.proofs.Among.{among_found}
use Rattle.check_findings.proofs.Among.{among_new}
use Rattle.check_findings.proofs.edges.goes_on.Goals as goal

pub returns : goal.returns
returns c =
    let onto = c.args.onto.number in
    let nexts : List ℕ = successors (loads_in c.args.deck.now) c.args.notes.now c.args.from.number in
    c.is_some.ensures
    ∙ among_found (places_of c.add_successors.new.self) onto c.index_of.result c.index_of.ensures.found
    c.index_of.ensures.none
    ∙ ap (λ (places : List ℕ). is_among places onto) (c.in_ok-add_successors.ensures
    ∙ ap (λ (places : List ℕ). with_new places nexts) c.none-targets.ensures) ∙ among_new nexts onto
