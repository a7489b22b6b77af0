use Rattle.std.proofs.Common.{ℕ, List, length, ap, sym, ◌∙◌}
use Rattle.std.proofs.lemmas.List.{length-map}
use Rattle.read_decks.specs.declared.deck.Deck.{Deck}
use Rattle.base_words.specs.declared.location.Location.{Location}
use Rattle.read_decks.specs.InDeck.{loads_in}
use Rattle.base_notes.specs.Allowed.{Notes}
use Rattle.flow_graph.specs.Flow.{executed_in, notes_of}
use Rattle.bound_scan.specs.RowOf.{row_in}
use Rattle.bound_scan.specs.Table.{Row}
use Rattle.print_walks.specs.SizeText.{hops_among}
use Rattle.print_walks.proofs.size.Size.of.Goals as goal

pub returns : goal.returns
returns c =
    let flow = c.in_ok-flow.flow in
    let places = executed_in flow in
    record {
      executed = places;
      found = c.in_ok-flow.ensures.found;
      words =
          sym (length-map c.executed.result.now (λ (location : Location). location.number))
          ∙ ap (λ (all : List ℕ). length all) c.executed.ensures.all;
      hops =
          c.hops_of.ensures
          ∙ ap (λ (deck : Deck). hops_among (loads_in deck) (notes_of flow) places) c.in_ok-flow.ensures.deck
          ∙ ap (λ (notes : Notes). hops_among (loads_in c.args.deck.now) notes places) c.in_ok-flow.ensures.notes;
      counts = c.counts.ensures;
      keys = sym (length-map c.table.result.now row_in) ∙ ap (λ (rows : List Row). length rows) c.table.ensures;
    }
