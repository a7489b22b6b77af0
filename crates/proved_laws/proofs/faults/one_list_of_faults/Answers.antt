use Rattle.proved_laws.proofs.OneList.{faults_one}
use Rattle.proved_laws.proofs.faults.one_list_of_faults.Goals as goal

pub returns : goal.returns
returns c = faults_one
