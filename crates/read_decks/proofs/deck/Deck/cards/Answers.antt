use Rattle.std.proofs.Common.{length, ap, arith, sym, subst}
use Rattle.read_decks.proofs.CardLines.{AreNumbered, DoRise, cards_within, cards_rise, cards_few}
use Rattle.read_decks.proofs.deck.Deck.cards.Goals as goal

pub returns-clause-numbered : goal.returns-clause-numbered
returns-clause-numbered c =
    let deck = c.args.self.now in
    subst AreNumbered (sym c.deref.ensures.value)
    (cards_within deck.image.items deck.cards.items deck.start deck.of_lines)

pub returns-clause-ascending : goal.returns-clause-ascending
returns-clause-ascending c =
    let deck = c.args.self.now in
    subst DoRise (sym c.deref.ensures.value) (cards_rise deck.image.items deck.cards.items deck.start deck.of_lines)

pub returns-clause-few : goal.returns-clause-few
returns-clause-few c =
    let deck = c.args.self.now in
    omega (arith, ap length c.deref.ensures.value, cards_few deck.image.items deck.cards.items deck.start deck.of_lines)
