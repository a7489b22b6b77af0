use Rattle.read_decks.proofs.FaultLaws.{deck_not_refused}
use Rattle.read_decks.proofs.laws.not_refused.Goals as goal

pub returns : goal.returns
returns c = deck_not_refused
