use Rattle.machine_rotation.specs.Waits.{angle_recurs, parity_recurs, available_recurs}
use Rattle.machine_rotation.proofs.Waited.{first_again}
use Rattle.machine_rotation.proofs.chain.over_when_over.Goals as goal

pub returns-clause-angles : goal.returns-clause-angles
returns-clause-angles c at t = first_again (angle_recurs at.angle at.on_drum) t

pub returns-clause-parities : goal.returns-clause-parities
returns-clause-parities c at t = first_again (parity_recurs at.parity) t

pub returns-clause-locations : goal.returns-clause-locations
returns-clause-locations c seek t = first_again (available_recurs seek.location.number) t
