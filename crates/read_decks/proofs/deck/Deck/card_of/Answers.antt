use Rattle.std.proofs.Common.{◌≤◌, sym, ◌∙◌, ap}
use Rattle.std.proofs.lemmas.List.Elements.{All-contains}
use Rattle.std.specs.Option.{option_map}
use Rattle.read_decks.specs.declared.deck.Given.{Given}
use Rattle.read_decks.proofs.CardLines.{card_among, cards_within}
use Rattle.read_decks.proofs.deck.Deck.card_of.Goals as goal

pub returns-clause-among : goal.returns-clause-among
returns-clause-among c =
    let deck = c.args.self.now in
    let given = c.in_ok-given.given in
    card_among deck.image.items deck.cards.items deck.start (sym deck.image.ok.0 ∙ deck.whole) deck.of_lines
    c.args.location.number given.line
    (ap (option_map (λ (one : Given). one.line)) (sym c.in_ok-given.ensures.held))

pub returns-clause-numbered : goal.returns-clause-numbered
returns-clause-numbered c =
    let deck = c.args.self.now in
    All-contains (λ line. (1 ≤ line) × (line ≤ 4000)) deck.cards.items c.in_ok-given.given.line
    (cards_within deck.image.items deck.cards.items deck.start deck.of_lines) (returns-clause-among c)
