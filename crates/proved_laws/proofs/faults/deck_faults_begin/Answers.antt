use Rattle.read_faults.proofs.Begin.{first_is_refused, none_is_deck}
use Rattle.proved_laws.proofs.faults.deck_faults_begin.Goals as goal

pub returns-clause-first : goal.returns-clause-first
returns-clause-first c = first_is_refused

pub returns-clause-none : goal.returns-clause-none
returns-clause-none c = none_is_deck
