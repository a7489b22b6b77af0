use Rattle.proved_laws.proofs.OneListing.{one_listing}
use Rattle.proved_laws.proofs.listing.waits_are_one.Goals as goal

pub returns : goal.returns
returns c = λ g angle used walk firsts others. one_listing g angle used walk firsts others
