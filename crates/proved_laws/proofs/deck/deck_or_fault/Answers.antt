use Rattle.proved_laws.proofs.DeckOrFault as lemmas
use Rattle.proved_laws.proofs.deck.deck_or_fault.Goals as goal

pub returns-clause-either : goal.returns-clause-either
returns-clause-either c = lemmas.deck_or_fault

pub returns-clause-one : goal.returns-clause-one
returns-clause-one c = lemmas.deck_lines_one
