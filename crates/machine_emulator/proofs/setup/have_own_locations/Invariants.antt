use Rattle.machine_emulator.proofs.OwnLocations.{OwnBelow}
use Rattle.machine_emulator.proofs.setup.have_own_locations.Given as goal

abbrev pub invariant-loop-place : goal.invariant-loop-place
invariant-loop-place l = OwnBelow l.words l.place
