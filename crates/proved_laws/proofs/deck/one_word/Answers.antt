use Rattle.read_decks.proofs.FaultLaws.{image_is_function}
use Rattle.proved_laws.proofs.deck.one_word.Goals as goal

pub returns : goal.returns
returns c given one distinct among = image_is_function given distinct one among
