use Rattle.std.proofs.Math.Logic.{∥∥₁_map}
use Rattle.read_decks.proofs.CardLines.{deck_cards_rise, deck_card_among}
use Rattle.proved_laws.proofs.deck.decks_are_of_lines.Goals as goal

pub returns-clause-lines : goal.returns-clause-lines
returns-clause-lines c = λ deck. ∥∥₁_map deck.of_lines (λ of. (of.texts, of.lines, of.said, of.holds, of.few))

pub returns-clause-cards : goal.returns-clause-cards
returns-clause-cards c = deck_cards_rise

pub returns-clause-among : goal.returns-clause-among
returns-clause-among c = deck_card_among
