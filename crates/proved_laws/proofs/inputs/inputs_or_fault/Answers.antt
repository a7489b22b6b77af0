use Rattle.proved_laws.proofs.InputsOrFault as lemmas
use Rattle.proved_laws.proofs.inputs.inputs_or_fault.Goals as goal

pub returns : goal.returns
returns c = lemmas.inputs_or_fault
