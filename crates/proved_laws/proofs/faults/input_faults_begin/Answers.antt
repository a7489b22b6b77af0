use Rattle.read_faults.proofs.BeginInputs.{first_input_refused, none_is_inputs}
use Rattle.proved_laws.proofs.OneList.{input_faults_one}
use Rattle.proved_laws.proofs.faults.input_faults_begin.Goals as goal

pub returns-clause-first : goal.returns-clause-first
returns-clause-first c = first_input_refused

pub returns-clause-none : goal.returns-clause-none
returns-clause-none c = none_is_inputs

pub returns-clause-one : goal.returns-clause-one
returns-clause-one c = input_faults_one
