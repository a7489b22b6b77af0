use Rattle.machine_steps.proofs.SinceLaws.{along_length, along_is_since, one_count}
use Rattle.proved_laws.proofs.machine.counts_are_since.Goals as goal

pub returns-clause-each : goal.returns-clause-each
returns-clause-each c = along_length

pub returns-clause-since : goal.returns-clause-since
returns-clause-since c = along_is_since

pub returns-clause-one : goal.returns-clause-one
returns-clause-one c = one_count
