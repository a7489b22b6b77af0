use Rattle.std.proofs.Common.{sym, ◌∙◌, arith}
use Rattle.read_decks.proofs.InDeckLaws.{held_is_said, held_within}
use Rattle.proved_laws.proofs.deck.loads_what_is_said.Goals as goal

pub returns-clause-loads : goal.returns-clause-loads
returns-clause-loads c =
    λ deck lines location held. held_is_said deck.image.items deck.cards.items _ lines location
    (sym deck.image.ok.0 ∙ deck.whole) held

pub returns-clause-on_drum : goal.returns-clause-on_drum
returns-clause-on_drum c =
    λ deck location word loads. omega
    (arith, deck.whole, deck.image.ok.0, held_within deck.image.items location word loads)
