use Rattle.machine_rotation.specs.Recurs.{first_is_first}
use Rattle.machine_rotation.specs.Waits.{angle_recurs, parity_recurs, available_recurs}
use Rattle.proved_laws.proofs.rotation.first_is_least.Goals as goal

pub returns-clause-angles : goal.returns-clause-angles
returns-clause-angles c angle clock on_drum = first_is_first (angle_recurs angle on_drum) clock

pub returns-clause-parities : goal.returns-clause-parities
returns-clause-parities c parity clock = first_is_first (parity_recurs parity) clock

pub returns-clause-locations : goal.returns-clause-locations
returns-clause-locations c location clock = first_is_first (available_recurs location) clock
