use Rattle.std.proofs.Common.{◌≡◌, ℕ, [], List, Some, ap, ◌∙◌}
use Rattle.std.proofs.lemmas.Result.{IfOk-weaker}
use Rattle.std.specs.Prelude.{slice_get}
use Rattle.read_decks.specs.declared.deck.Deck.{Deck}
use Rattle.read_decks.specs.InDeck.{loads_in}
use Rattle.base_notes.specs.Allowed.{Notes}
use Rattle.flow_graph.specs.Executed.{successors, with_new}
use Rattle.flow_graph.specs.Flow.{deck_of, nodes_of, notes_of}
use Rattle.flow_graph.specs.Hops.{Node}
use Rattle.flow_graph.proofs.Founds.{numbers}
use Rattle.flow_acceptance.specs.Free.{IsFreeRow, IsUnmarkedRow}
use Rattle.flow_acceptance.proofs.FreeRows.{row_free}
use Rattle.flow_acceptance.proofs.free.free_row.Goals as goal

pub returns : goal.returns
returns c =
    let flow = c.args.flow.now in
    let loads = loads_in (deck_of flow) in
    let nodes = nodes_of flow in
    let from = c.location.ensures.0 in
    let targets = c.locations.result.now in
    let all : numbers targets ≡ with_new [] (successors loads (notes_of flow) from.place) =
    c.locations.ensures.all ∙ c.in_ok-add_successors.ensures
    ∙ ap (λ (places : List ℕ). with_new places (successors (loads_in c.deck.result.now) c.notes.result.now
    c.location.result.number)) c.none-targets.ensures
    ∙ ap (λ (deck : Deck). with_new [] (successors (loads_in deck) c.notes.result.now c.location.result.number))
    c.deck.ensures
    ∙ ap (λ (notes : Notes). with_new [] (successors loads notes c.location.result.number)) c.notes.ensures
    ∙ ap (λ (place : ℕ). with_new [] (successors loads (notes_of flow) place)) c.location.ensures.2 in
    IfOk-weaker c.unmarked_row.result
    (λ row. (one : Node) → slice_get nodes c.args.node ≡ Some one
    → IsUnmarkedRow (notes_of flow) nodes (numbers targets) one row.items)
    (λ row. (one : Node) × (slice_get nodes c.args.node ≡ Some one)
    × IsFreeRow loads (notes_of flow) nodes one row.items)
    (λ row unmarked. (
      from,
      c.location.ensures.1,
      row_free loads (notes_of flow) nodes (numbers targets) from row.items all (unmarked from c.location.ensures.1),
    )) c.unmarked_row.ensures
