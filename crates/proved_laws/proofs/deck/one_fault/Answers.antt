use Rattle.read_decks.proofs.FaultLaws.{fault_one}
use Rattle.proved_laws.proofs.deck.one_fault.Goals as goal

pub returns : goal.returns
returns c = fault_one
