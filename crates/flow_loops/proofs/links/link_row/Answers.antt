use Rattle.std.proofs.Common.{◌≡◌, ℕ, [], List, Some, ap, ◌∙◌}
use Rattle.std.proofs.lemmas.Result.{IfOk-weaker}
use Rattle.std.specs.Prelude.{slice_get}
use Rattle.read_decks.specs.declared.deck.Deck.{Deck}
use Rattle.read_decks.specs.InDeck.{loads_in}
use Rattle.base_notes.specs.Allowed.{Notes}
use Rattle.flow_graph.specs.Executed.{successors, with_new}
use Rattle.flow_graph.specs.Flow.{nodes_of}
use Rattle.flow_graph.specs.Found.{places_of}
use Rattle.flow_graph.specs.Hops.{Node}
use Rattle.flow_graph.proofs.Founds.{numbers}
use Rattle.flow_loops.specs.Links.{IsLinkRow, IsOnwardRow}
use Rattle.flow_loops.proofs.LinkRows.{row_linked}
use Rattle.flow_loops.proofs.links.link_row.Goals as goal

pub returns : goal.returns
returns c =
    let flow = c.args.flow.now in
    let loads = loads_in flow.deck.now in
    let nodes = nodes_of flow in
    let from = c.location.ensures.0 in
    let targets = c.locations.result.now in
    let all : numbers targets ≡ with_new [] (successors loads flow.notes.now from.place) =
    c.locations.ensures.all ∙ c.in_ok-add_successors.ensures
    ∙ ap (λ (deck : Deck). with_new (places_of c.none-targets.result) (successors (loads_in deck) c.notes.result.now c.location.result.number)) c.deck.ensures
    ∙ ap (λ (notes : Notes). with_new (places_of c.none-targets.result) (successors loads notes c.location.result.number)) c.notes.ensures
    ∙ ap (λ (places : List ℕ). with_new places (successors loads flow.notes.now c.location.result.number))
    c.none-targets.ensures
    ∙ ap (λ (place : ℕ). with_new [] (successors loads flow.notes.now place)) c.location.ensures.2 in
    IfOk-weaker c.onward_row.result
    (λ row. (one : Node) → slice_get nodes c.args.node ≡ Some one
    → IsOnwardRow flow.notes.now nodes (numbers targets) one row.items)
    (λ row. (one : Node) × (slice_get nodes c.args.node ≡ Some one)
    × IsLinkRow loads flow.notes.now nodes one row.items)
    (λ row onward. (
      from,
      c.location.ensures.1,
      row_linked loads flow.notes.now nodes (numbers targets) from row.items all (onward from c.location.ensures.1),
    )) c.onward_row.ensures
