use Rattle.proved_laws.proofs.WalkPasses.{walk_passes}
use Rattle.proved_laws.proofs.flow.passes_are_few.Goals as goal

pub returns : goal.returns
returns c = walk_passes
